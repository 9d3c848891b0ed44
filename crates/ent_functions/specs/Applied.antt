-- What each function comes to (appendix A.3): the whole table, a line for each function.
use Rattle.std.specs.Prelude.{◌≡◌, pos, neg_ℤ, ◌+ℤ◌, ◌-ℤ◌, ◌*ℤ◌, unsigned_abs, Bool, true, false, not, List, ◌∷◌, length, map, Some, IsSome, Result, Ok}
use Rattle.std.specs.List.{list_any, list_all}
use Rattle.ent_values.specs.Order.{value_order}
use Rattle.ent_values.specs.Same.{same_value}
use Rattle.ent_values.specs.Types.{datatype_of, is_textual}
use Rattle.ent_values.specs.declared.value.Value.{Value}
use Rattle.ent_values.specs.declared.value.Value.TheVariants as values
use Rattle.ent_functions.specs.Arguments.{HasAnswer, are_many_bags, type_of_arg, ill_typed, truth, is_true, comes_true, integers_of, texts_of, values_of, of_boolean, of_integer, of_two_values, of_integers, of_texts, of_date_and_months, of_bag, of_value_and_bag, of_two_bags}
use Rattle.ent_functions.specs.Dates.{months_later}
use Rattle.ent_functions.specs.Higher.{bag_values, with_value}
use Rattle.ent_functions.specs.Integers.{within_64_bits, from_left, quotient, remainder}
use Rattle.ent_functions.specs.Orders.{stands}
use Rattle.ent_functions.specs.Sets.{only_value, is_among, each_once, in_both, have_common, is_subset, are_equal_sets}
use Rattle.ent_functions.specs.Texts.{begins_with, ends_with, has_part, joined}
use Rattle.ent_functions.specs.Types.{element_type, result_type_of, boolean}
use Rattle.ent_functions.specs.declared.arg.Arg.{Arg}
use Rattle.ent_functions.specs.declared.arg.Arg.TheVariants.{One, Many, Fun}
use Rattle.ent_functions.specs.declared.arg.Fault.{Fault}
use Rattle.ent_functions.specs.declared.function.Element.{Element}
use Rattle.ent_functions.specs.declared.function.Function.{Function}
use Rattle.ent_functions.specs.declared.function.Function.TheVariants as functions
use Rattle.ent_functions.specs.declared.types.ArgType.TheVariants as types

-- a bag as a result
abbrev pub bag_result : Element → List Value → Result Arg Fault
bag_result element contents = Ok (Many (record { datatype = element_type element; values = contents }))

-- what a function that takes no function comes to
unfoldable pub first_order : Function → List Arg → Result Arg Fault
first_order (functions.Equal e) = of_two_values (λ first second. truth (same_value first second))
first_order (functions.Compare c o) = of_two_values (λ first second. truth (stands c (value_order first second)))
first_order functions.Add = λ arguments. from_left ◌+ℤ◌ (pos 0) (integers_of arguments)
first_order functions.Subtract = of_two_values (of_integers (λ first second. within_64_bits (first -ℤ second)))
first_order functions.Multiply = λ arguments. from_left ◌*ℤ◌ (pos 1) (integers_of arguments)
first_order functions.Divide = of_two_values (of_integers quotient)
first_order functions.Mod = of_two_values (of_integers remainder)
first_order functions.Abs = of_integer (λ number. within_64_bits (pos (unsigned_abs number)))
first_order functions.Or = λ arguments. truth (list_any is_true arguments)
first_order functions.And = λ arguments. truth (list_all is_true arguments)
first_order functions.Not = of_boolean (λ boolean. truth (not boolean))
first_order (functions.OneAndOnly e) = of_bag only_value
first_order (functions.BagSize e) = of_bag (λ contents. within_64_bits (pos (length contents)))
first_order (functions.IsIn e) = of_value_and_bag (λ value contents. truth (is_among value contents))
first_order (functions.Bag e) = λ arguments. bag_result e (values_of arguments)
first_order (functions.Intersection e) = of_two_bags (λ first second. bag_result e (in_both first second))
first_order (functions.Union e) = λ arguments. bag_result e (each_once (values_of arguments))
first_order (functions.AtLeastOneMemberOf e) = of_two_bags (λ first second. truth (have_common first second))
first_order (functions.Subset e) = of_two_bags (λ first second. truth (is_subset first second))
first_order (functions.SetEquals e) = of_two_bags (λ first second. truth (are_equal_sets first second))
first_order functions.Concatenate = λ arguments. Ok (One (values.Text (joined (texts_of arguments))))
first_order functions.StartsWith = of_two_values (of_texts (λ first second. truth (begins_with first second)))
first_order functions.EndsWith = of_two_values (of_texts (λ first second. truth (ends_with first second)))
first_order functions.Contains = of_two_values (of_texts (λ first second. truth (has_part first second)))
first_order functions.DateAdd = of_two_values (of_date_and_months months_later)
first_order functions.DateSubtract = of_two_values (of_date_and_months (λ date months. months_later date (neg_ℤ months)))
first_order functions.AnyOf = λ arguments. ill_typed
first_order functions.AllOf = λ arguments. ill_typed

-- whether the function comes to True with a value in the bag's place
abbrev pub comes_true_with : Function → List Arg → Value → Bool
comes_true_with function arguments value = comes_true (first_order function (with_value value arguments))

-- any-of is True if the function is, with one of the bag's values in the bag's place
unfoldable pub any_of : List Arg → Result Arg Fault
any_of (Fun function ∷ arguments) = truth (list_any (comes_true_with function arguments) (bag_values arguments))
any_of _ = ill_typed

-- all-of is False if the function is, with one of the bag's values in the bag's place
unfoldable pub all_of : List Arg → Result Arg Fault
all_of (Fun function ∷ arguments) = truth (list_all (comes_true_with function arguments) (bag_values arguments))
all_of _ = ill_typed

-- a function that may want memory: for its result, which is a bag, or a string or URI out of a bag or joined, or to put the values of one of two bags in order
abbrev pub allocates : Function → Bool
allocates (functions.OneAndOnly e) = is_textual (element_type e)
allocates (functions.Bag e) = true
allocates (functions.Intersection e) = true
allocates (functions.Union e) = true
allocates (functions.AtLeastOneMemberOf e) = true
allocates (functions.Subset e) = true
allocates (functions.SetEquals e) = true
allocates functions.Concatenate = true
allocates _ = false

-- whether the values of one of two bags are put in order: where both have more than 16
abbrev pub sorts : Function → List Arg → Bool
sorts (functions.Intersection e) arguments = are_many_bags arguments
sorts (functions.AtLeastOneMemberOf e) arguments = are_many_bags arguments
sorts (functions.Subset e) arguments = are_many_bags arguments
sorts (functions.SetEquals e) arguments = are_many_bags arguments
sorts _ arguments = false

-- what a function comes to
unfoldable pub applied : Function → List Arg → Result Arg Fault
applied functions.AnyOf = any_of
applied functions.AllOf = all_of
applied function = first_order function

-- a function comes to a value or to a fault of its own for all arguments that it takes
abbrev pub WellTypedCallsHaveAnswers : Type 0
WellTypedCallsHaveAnswers =
    (function : Function) (arguments : List Arg)
    → IsSome (result_type_of function (map type_of_arg arguments)) → HasAnswer (applied function arguments)

-- on single values a function that gives a boolean has no fault
abbrev pub BooleanFunctionsHaveNoFault : Type 0
BooleanFunctionsHaveNoFault =
    (function : Function) (arguments : List Value)
    → result_type_of function (map (λ value. types.One (datatype_of value)) arguments) ≡ Some boolean
    → (answer : Bool) × (applied function (map One arguments) ≡ truth answer)
