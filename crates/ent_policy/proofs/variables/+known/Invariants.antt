use Rattle.std.proofs.Common.{◌≡◌, map, drop}
use Rattle.std.specs.List.{flat_map, list_all}
use Rattle.ent_policy.specs.proofs_only.Order.{has_id}
use Rattle.ent_policy.specs.Variables.{variables}
use Rattle.ent_policy.proofs.variables.+known.Given as goal

abbrev pub invariant-all_use_only-loop-expression : goal.invariant-all_use_only-loop-expression
invariant-all_use_only-loop-expression l =
    list_all (has_id l.known) (flat_map (λ ids. ids) (map variables (drop l.expression-index l.expressions)))
    ≡ list_all (has_id l.known) (flat_map (λ ids. ids) (map variables l.expressions))
