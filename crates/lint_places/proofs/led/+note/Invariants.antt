use Rattle.std.proofs.Common.{◌≡◌, ◌||◌, ℕ, List, map, take}
use Rattle.std.specs.List.{list_any}
use Rattle.ent_policy.specs.proofs_only.Order.{has_id}
use Rattle.lint_places.specs.Led.{refers}
use Rattle.lint_places.proofs.led.+note.Given as goal

abbrev pub invariant-note_all-loop-expression : goal.invariant-note_all-loop-expression
invariant-note_all-loop-expression l =
    (q : List ℕ) → has_id l.ids q ≡ (has_id l.fn.ids q || list_any (λ argument. argument) (map (refers q) (take l.expression-index l.expressions)))
