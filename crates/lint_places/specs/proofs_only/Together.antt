-- Arguments that are judged together: words of the code's own contracts.
use Rattle.std.specs.Prelude.{ℕ, List, [], ◌∷◌, Option, Some, None, Result, Ok, Err, bytes_eq, codes, if◌then◌else◌, option_map}
use Rattle.serde_json.specs.Data.{Data}
use Rattle.ent_json.specs.Objects.{one_member}
use Rattle.ent_policy.specs.declared.fault.DocFault.{DocFault}
use Rattle.ent_policy.specs.declared.raw.RawAssignment.{RawAssignment}
use Rattle.ent_policy.specs.declared.raw.RawExpression.{RawExpression}
use Rattle.ent_polform.specs.Expressions.{expression_of}
use Rattle.ent_polform.specs.Objects.{◌>>=◌}
use Rattle.lint_places.specs.Told.{Scope, first_fault, function_told, of_assignments, variables_in}

-- an assignment of an expression, and of nothing else
abbrev pub assigned : RawExpression → RawAssignment
assigned e = record { attribute = codes "-"; category = None; issuer = None; expression = e }

-- a function that there is is judged as nothing
abbrev pub function_as : Option DocFault → Option (Option RawAssignment)
function_as None = Some None
function_as (Some fault) = None

-- an expression that can be read is judged as an assignment
abbrev pub expression_as : Result RawExpression DocFault → Option (Option RawAssignment)
expression_as (Err fault) = None
expression_as (Ok e) = Some (Some (assigned e))

-- what an argument is judged as together with others, by its only member; it may not be judged so
abbrev pub argument_as : Data → Option (List ℕ × Data) → Option (Option RawAssignment)
argument_as d None = None
argument_as d (Some m) = if bytes_eq m.0 (codes "Function") then function_as (function_told m.1) else expression_as (expression_of d)

-- before others
abbrev pub before : Option (Option RawAssignment) → Option (List RawAssignment) → Option (List RawAssignment)
before None others = None
before (Some None) others = others
before (Some (Some w)) others = option_map (λ ws. w ∷ ws) others

-- what some arguments are judged as, if each may be judged with the others
abbrev pub arguments_as : List Data → Option (List RawAssignment)
arguments_as [] = Some []
arguments_as (d ∷ ds) = before (argument_as d (one_member d)) (arguments_as ds)

-- what is told of assignments in a scope
unfoldable pub assigned_told : Scope → List RawAssignment → Option DocFault
assigned_told s ws = first_fault (variables_in s >>= λ vs. Ok (of_assignments ws vs))
