use Rattle.std.proofs.Common.{take}
use Rattle.std.specs.List.{flat_map}
use Rattle.ent_policy.specs.Variables.{variables}
use Rattle.lint_meaning.specs.proofs_only.Adding.{Adds}
use Rattle.lint_meaning.proofs.names.+names.Given as goal

abbrev pub invariant-put_names_of-loop-expression : goal.invariant-put_names_of-loop-expression
invariant-put_names_of-loop-expression l = Adds l.fn.names (flat_map variables (take l.expression-index l.expressions)) l.names
