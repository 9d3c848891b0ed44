use Rattle.std.proofs.Common.{◌≡◌, ◌++◌, codes, drop, map}
use Rattle.lint_meaning.specs.Places.{numbered}
use Rattle.lint_meaning.specs.Warnings.{definition_told}
use Rattle.ent_policy.specs.proofs_only.Order.{has_id}
use Rattle.lint_meaning.proofs.walk.tell_each_definition.Given as goal

abbrev pub invariant-loop-number : goal.invariant-loop-number
invariant-loop-number l =
    l.warnings ++ numbered (codes "VariableDefinition") l.number (map (definition_told (has_id l.names)) (drop l.number l.definitions)) l.pointer
    ≡ l.fn.warnings ++ numbered (codes "VariableDefinition") 0 (map (definition_told (has_id l.names)) l.definitions) l.pointer
