-- What a function of arguments comes to: a word of the code's own contracts.
use Rattle.std.specs.Prelude.{ℕ, List, map}
use Rattle.ent_functions.specs.declared.function.Function.{Function}
use Rattle.ent_policy.specs.declared.expression.Expression.{Expression}
use Rattle.ent_policy.specs.declared.expression.VariableDefinition.{VariableDefinition}
use Rattle.ent_walk.specs.declared.evaluated.Evaluated.{Evaluated}
use Rattle.ent_request.specs.declared.request.Request.{Request}
use Rattle.ent_request.specs.Looks.{Looks}
use Rattle.ent_request.specs.Part.{Part}
use Rattle.ent_walk.specs.Expression.{application, meaning}

-- a function of arguments, which are such expressions
abbrev pub apply_part : Looks → Request → List VariableDefinition → ℕ → Function → List Expression → Part Evaluated
apply_part looks request definitions n function arguments =
    application function (map (meaning looks request definitions n) arguments)
