-- The types of what expressions come to.
use Rattle.std.specs.Prelude.{◌≡◌, ℕ, ◌+◌, ◌*◌, max, List, [], ◌∷◌, Bool, true, ◌&&◌, Option, Some, is_some, option_and_then, length, map, nat_le}
use Rattle.std.specs.List.{All, list_all}
use Rattle.ent_values.specs.declared.datatype.DataType.{DataType}
use Rattle.ent_values.specs.declared.value.Value.{Value}
use Rattle.ent_values.specs.Types.{datatype_of}
use Rattle.ent_functions.specs.Arguments.{type_of_arg}
use Rattle.ent_functions.specs.Types.{result_type_of}
use Rattle.ent_functions.specs.declared.function.Function.{Function}
use Rattle.ent_functions.specs.declared.types.ArgType.{ArgType}
use Rattle.ent_functions.specs.declared.types.ArgType.TheVariants.{One}
use Rattle.ent_policy.specs.declared.expression.Expression.{Expression, size-Expression}
use Rattle.ent_policy.specs.declared.expression.VariableDefinition.{VariableDefinition}
use Rattle.ent_policy.specs.Typing.{all_typed, child_step, given_is_typed, held, is_boolean, target_is_typed, type_with, variable_type}
use Rattle.ent_policy.specs.declared.document.Child.{Child}
use Rattle.ent_policy.specs.declared.document.Child.TheOpen.{PolicySet-F}
use Rattle.ent_policy.specs.declared.document.Child.TheFolds.{fold-Child, fold-PolicySet}
use Rattle.ent_policy.specs.declared.document.PolicySet.{PolicySet}
use Rattle.ent_walk.specs.declared.evaluated.Evaluated.{Evaluated}
use Rattle.ent_walk.specs.declared.evaluated.Evaluated.TheVariants.{Known, Indeterminate}

-- the type of an expression among definitions, through at most this many references
abbrev pub type_of : List VariableDefinition → ℕ → Expression → Option ArgType
type_of definitions n = type_with (variable_type definitions n)

-- the type of a function of arguments, which are such expressions
abbrev pub apply_type : List VariableDefinition → ℕ → Function → List Expression → Option ArgType
apply_type definitions n function arguments = option_and_then (result_type_of function) (all_typed (map (type_of definitions n) arguments))

-- it is Indeterminate or has that type
abbrev pub HasType : Option ArgType → Evaluated → Type 0
HasType type (Known outcome) = type ≡ Some (type_of_arg outcome)
HasType type (Indeterminate status) = Unit {0}

-- a value or a bag, if it isn't Indeterminate
abbrev pub is_held : Evaluated → Bool
is_held (Known outcome) = is_some (held (Some (type_of_arg outcome)))
is_held (Indeterminate status) = true

-- a function gives one boolean for a literal and a value of that type
abbrev pub Tests : Function → Value → DataType → Type 0
Tests function literal datatype = is_boolean (result_type_of function (One (datatype_of literal) ∷ One datatype ∷ [])) ≡ true

-- it does for a literal and each of several values
abbrev pub TestsEach : Function → Value → List Value → Type 0
TestsEach function literal values = All (λ value. Tests function literal (datatype_of value)) values

-- how deep the deepest of several definitions is
abbrev pub deepest : List VariableDefinition → ℕ
deepest [] = 0
deepest (d ∷ definitions) = max (size-Expression d.expression) (deepest definitions)

-- more than any definition is deep: what one reference more is worth
abbrev pub worth : List VariableDefinition → ℕ
worth definitions = 4 * deepest definitions + 8

-- one level of a set, with each child already seen: its target has its type, and there are at most 256 children
abbrev pub fit_step : PolicySet-F Bool Bool → Bool
fit_step set = target_is_typed set.target && (nat_le (length set.children) 256 && (list_all (λ child. child) set.children && given_is_typed [] set.given))

-- a child can be evaluated: each expression of it has its type, and no set has more than 256 children
abbrev pub is_fit : Child → Bool
is_fit = fold-Child Bool Bool child_step fit_step

-- a set can
abbrev pub set_is_fit : PolicySet → Bool
set_is_fit = fold-PolicySet Bool Bool child_step fit_step
