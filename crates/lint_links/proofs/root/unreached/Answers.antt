use Rattle.std.proofs.Common.{◌≡◌, ◌∙◌, IfOk, not, subst}
use Rattle.std.specs.List.{filter}
use Rattle.ent_finder.specs.Slots.{held}
use Rattle.lint_links.specs.Root.{is_unreached}
use Rattle.lint_links.specs.proofs_only.Root.{place_of}
use Rattle.lint_links.proofs.root.unreached.Goals as goal

pub returns : goal.returns
returns c =
    subst (λ keys. IfOk c.keys_outside.result (λ left. left ≡ filter (is_unreached (held c.args.docs) c.args.root.now) keys)) (c.as_slice.ensures.value ∙ c.in_ok-keys.ensures)
    (subst (λ p. IfOk c.keys_outside.result (λ left. left ≡ filter p c.as_slice.result.now)) (λ j k. not (c.in_ok-reached.ensures (place_of k) j)) c.keys_outside.ensures)
