use Rattle.std.proofs.Common.{◌∙◌, ◌≡◌, not, ◌-◌, length, take}
use Rattle.std.specs.List.{list_all}
use Rattle.ent_policy.specs.Patterns.{is_more}
use Rattle.ent_policy.proofs.Patterns.{front_only}
use Rattle.ent_policy.proofs.pattern.more_is_last.Goals as goal

pub returns-in-len1-up : goal.returns-in-len1-up
returns-in-len1-up c =
    let f = front_only c.args.parts.now c.in-len1-up.len_at_least in
    let e : c.no_more.result ≡ list_all (λ p. not (is_more p)) (take (length c.args.parts.now - 1) c.args.parts.now) = c.no_more.ensures in e ∙ f
