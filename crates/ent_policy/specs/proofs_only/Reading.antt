-- What is read of a function of arguments: a word of the code's own contracts.
use Rattle.std.specs.Prelude.{ℕ, List}
use Rattle.ent_policy.specs.declared.expression.Expression.{Expression}
use Rattle.ent_policy.specs.declared.expression.Expression.TheVariants as expressions
use Rattle.ent_policy.specs.declared.raw.RawExpression.{RawExpression}
use Rattle.ent_policy.specs.declared.read.Read.{Read}
use Rattle.ent_policy.specs.Reading.{◌>>=◌, done, each_read, expression_read, function_read}

-- a function of arguments
abbrev pub apply_read : List ℕ → List RawExpression → Read Expression
apply_read id arguments = do
  function ← function_read id
  all ← each_read expression_read arguments
  done (expressions.Apply function all)
