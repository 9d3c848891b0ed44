use Rattle.std.proofs.Common.{◌≡◌, ◌∙◌, sym, take, true, false}
use Rattle.ent_policy.specs.Patterns.{more_is_last}
use Rattle.ent_policy.proofs.Patterns.{ends_right, is_pattern_from_dotted, more_inside, not_dotted}
use Rattle.ent_policy.proofs.pattern.VersionMatch.parse.Goals as goal

pub returns-in_err-parts : goal.returns-in_err-parts
returns-in_err-parts c = c.from_residual.ensures ∙ not_dotted c.args.text.now c.in_err-parts.ensures

pub returns-then-not-more_is_last : goal.returns-then-not-more_is_last
returns-then-not-more_is_last c =
    let last : more_is_last (take c.in_ok-parts.count c.in_ok-parts.parts) ≡ false = sym c.more_is_last.ensures ∙ c.if-not-more_is_last.true in
    more_inside c.args.text.now (take c.in_ok-parts.count c.in_ok-parts.parts) c.in_ok-parts.ensures.1 last

pub invariant_of-result : goal.invariant_of-result
invariant_of-result c =
    let last : more_is_last (take c.in_ok-parts.count c.in_ok-parts.parts) ≡ true = sym c.more_is_last.ensures ∙ c.if-not-more_is_last.false in
    (c.in_ok-parts.ensures.0, is_pattern_from_dotted c.args.text.now (take c.in_ok-parts.count c.in_ok-parts.parts) c.in_ok-parts.ensures.1 last)

pub returns : goal.returns
returns c =
    let last : more_is_last (take c.in_ok-parts.count c.in_ok-parts.parts) ≡ true = sym c.more_is_last.ensures ∙ c.if-not-more_is_last.false in
    ends_right c.args.text.now (take c.in_ok-parts.count c.in_ok-parts.parts) c.in_ok-parts.ensures.1 last
