-- The literals with which values of designators are compared, in a match or in an application of a function.
use Rattle.std.specs.Prelude.{ℕ, suc, List, [], ◌∷◌, ◌++◌, Bool, true, false, not, ◌&&◌, Option, Some, None, option_and_then, option_map, codes, decimal, is_some}
use Rattle.std.specs.Prelude.{if◌then◌else◌}
use Rattle.std.specs.List.{flat_map, list_any}
use Rattle.std.specs.Option.{option_map_or, option_to_list}
use Rattle.serde_json.specs.Data as json
use Rattle.serde_json.specs.Data.{Data, Items}
use Rattle.serde_json.specs.Find.{as_array, get}
use Rattle.ent_values.specs.Same.{same_value}
use Rattle.ent_values.specs.declared.datatype.DataType.{DataType}
use Rattle.ent_values.specs.declared.value.Value.{Value}
use Rattle.ent_json.specs.Objects.{text_at}
use Rattle.ent_functions.specs.Identifiers.{function_of}
use Rattle.ent_functions.specs.declared.function.Function.{Function}
use Rattle.ent_functions.specs.declared.function.Function.TheVariants as functions
use Rattle.ent_polform.specs.Values.{value_in}
use Rattle.lint_places.specs.declared.part.Part.{Part}
use Rattle.lint_places.specs.declared.part.Part.TheVariants as part
use Rattle.lint_declared.specs.Asked.{asked, finds}
use Rattle.lint_declared.specs.declared.attribute.DeclaredAttribute.{DeclaredAttribute}

-- ---- places

-- a JSON pointer (RFC 6901), and what stands there
abbrev pub Place : Type 0
Place = List ℕ × Data

-- what stands at a key of an object
abbrev pub at : List ℕ → Place → Option Place
at key p = option_map (λ d. (p.0 ++ codes "/" ++ key, d)) (get key p.1)

-- the members of a list that stands at that pointer, of which the first has this number
abbrev pub members_from : List ℕ → ℕ → Items → List Place
members_from pointer n json.no_items = []
members_from pointer n (json.item d ds) = (pointer ++ codes "/" ++ decimal n, d) ∷ members_from pointer (suc n) ds

-- the arguments of an application
abbrev pub arguments_of : Place → List Place
arguments_of p = option_map_or (λ items. members_from (p.0 ++ codes "/Arguments") 0 items) (option_and_then as_array (get (codes "Arguments") p.1)) []

-- ---- functions

-- the function that is named at a key
abbrev pub function_at : List ℕ → Data → Option Function
function_at key d = option_and_then function_of (text_at key d)

-- it tells whether values of its arguments are among one another (appendices A.3.1, A.3.10 and A.3.11)
abbrev pub is_comparing : Option Function → Bool
is_comparing (Some (functions.Equal e)) = true
is_comparing (Some (functions.IsIn e)) = true
is_comparing (Some (functions.AtLeastOneMemberOf e)) = true
is_comparing (Some (functions.Subset e)) = true
is_comparing (Some (functions.SetEquals e)) = true
is_comparing (Some (functions.Intersection e)) = true
is_comparing _ = false

-- it hands on the values of its arguments (appendix A.3.10)
abbrev pub is_passing : Option Function → Bool
is_passing (Some (functions.OneAndOnly e)) = true
is_passing (Some (functions.Bag e)) = true
is_passing _ = false

-- ---- what is compared

-- what stands at a key of an argument of a function that hands its arguments on
abbrev pub passed : List ℕ → Place → List Place
passed key apply = if is_passing (function_at (codes "FunctionId") apply.1)
    then flat_map (λ p. option_to_list (at key p)) (arguments_of apply) else []

-- what stands at a key of an argument, or of one that is handed on there
abbrev pub given : List ℕ → Place → List Place
given key argument = option_to_list (at key argument) ++ option_map_or (passed key) (at (codes "Apply") argument) []

-- what is compared in a part, of those that stand at a key
abbrev pub compared : List ℕ → Part → Place → List Place
compared key part.Match p = if is_comparing (function_at (codes "MatchId") p.1) then option_to_list (at key p) else []
compared key part.Apply p = if is_comparing (function_at (codes "FunctionId") p.1) then flat_map (given key) (arguments_of p) else []
compared key other p = []

-- the designators, and the literals
abbrev pub designators : Part → Place → List Place
designators = compared (codes "AttributeDesignator")

abbrev pub literals : Part → Place → List Place
literals = compared (codes "AttributeValue")

-- ---- literals that aren't among the values

-- the values of an attribute are listed
abbrev pub lists_values : DeclaredAttribute → Bool
lists_values a = is_some a.values

-- a value is among those that are listed
abbrev pub lists : Value → DeclaredAttribute → Bool
lists value a = option_map_or (list_any (same_value value)) a.values false

-- values are listed for what is wanted, and this one is none of them
abbrev pub is_foreign : List DeclaredAttribute → DeclaredAttribute → Value → Bool
is_foreign attributes wanted value =
    list_any (λ a. finds wanted a && lists_values a) attributes && not (list_any (λ a. finds wanted a && lists value a) attributes)

-- a literal, read by the type of a designator
abbrev pub literal_as : DataType → Data → Option Value
literal_as datatype d = option_and_then (value_in datatype) (get (codes "Value") d)

-- so a literal is foreign to what a designator asks for
abbrev pub is_foreign_to : List DeclaredAttribute → Option DeclaredAttribute → Data → Bool
is_foreign_to attributes None literal = false
is_foreign_to attributes (Some wanted) literal = option_map_or (is_foreign attributes wanted) (literal_as wanted.datatype literal) false

-- a literal with which a designator is compared is none of the values that are listed for it
abbrev pub is_stray : List DeclaredAttribute → Place → Place → Bool
is_stray attributes designator literal = is_foreign_to attributes (asked designator.1) literal.1

-- some literal of a part is so
abbrev pub has_stray : List DeclaredAttribute → Part → Place → Bool
has_stray attributes p place = list_any (λ literal. list_any (λ designator. is_stray attributes designator literal) (designators p place)) (literals p place)
