use Rattle.std.proofs.Common.{◌≡◌, ◌++◌, drop}
use Rattle.ent_clone.proofs.expression.+expression.Given as goal

abbrev pub invariant-copied_expressions-loop-expression : goal.invariant-copied_expressions-loop-expression
invariant-copied_expressions-loop-expression l = l.copies ++ drop l.expression-index l.expressions ≡ l.expressions
