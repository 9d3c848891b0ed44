-- Conditions that ask for nothing.
use Rattle.std.specs.Prelude.{Bool, true, false}
use Rattle.std.specs.List.{list_all}
use Rattle.ent_policy.specs.declared.expression.Expression.{Expression}
use Rattle.ent_policy.specs.declared.expression.Expression.TheOpen.{Expression-F}
use Rattle.ent_policy.specs.declared.expression.Expression.TheFolds.{fold-Expression}

-- one level of an expression, with each argument already judged
abbrev pub fixed_step : Expression-F Bool → Bool
fixed_step (Expression-F.Value value) = true
fixed_step (Expression-F.Designator designator) = false
fixed_step (Expression-F.Variable id) = false
fixed_step (Expression-F.Apply function arguments) = list_all (λ fixed. fixed) arguments
fixed_step (Expression-F.Function function) = true

-- an expression has literals and functions alone, so it comes to the same for each request (section 7.9)
abbrev pub is_fixed : Expression → Bool
is_fixed = fold-Expression Bool fixed_step
