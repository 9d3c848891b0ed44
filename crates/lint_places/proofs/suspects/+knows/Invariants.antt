use Rattle.std.proofs.Common.{◌≡◌, drop, map}
use Rattle.std.specs.List.{flat_map, list_all}
use Rattle.ent_policy.specs.proofs_only.Order.{has_id}
use Rattle.lint_places.specs.proofs_only.Suspects.{uses}
use Rattle.lint_places.proofs.suspects.+knows.Given as goal

abbrev pub invariant-all_know-loop-expression : goal.invariant-all_know-loop-expression
invariant-all_know-loop-expression l =
    list_all (has_id l.ids) (flat_map (λ ids. ids) (map uses (drop l.expression-index l.expressions))) ≡ list_all (has_id l.ids) (flat_map (λ ids. ids) (map uses l.expressions))
