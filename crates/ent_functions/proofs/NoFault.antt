-- On single values a function that gives a boolean has no fault.
use Rattle.std.proofs.Common.{◌≡◌, ℕ, Bool, true, List, [], ◌∷◌, map, refl, ap, subst, ◌∙◌}
use Rattle.std.specs.Prelude.{Some, not}
use Rattle.std.specs.List.{list_all, list_any}
use Rattle.ent_values.specs.Order.{value_order}
use Rattle.ent_values.specs.Same.{same_value}
use Rattle.ent_values.specs.Types.{datatype_of}
use Rattle.ent_values.specs.declared.datatype.DataType.TheVariants as data_types
use Rattle.ent_values.specs.declared.value.Value.{Value}
use Rattle.ent_values.specs.declared.value.Value.TheVariants as values
use Rattle.ent_functions.specs.Applied.{applied, first_order}
use Rattle.ent_functions.specs.Arguments.{of_texts, truth, type_of_arg, is_true}
use Rattle.ent_functions.specs.Orders.{stands}
use Rattle.ent_functions.specs.proofs_only.Reading.{Takes, is_test, is_test_of_two}
use Rattle.ent_functions.specs.Texts.{begins_with, ends_with, has_part}
use Rattle.ent_functions.specs.Types.{boolean, first_order_type, higher_order_type, is_boolean, one_of, result_type_of}
use Rattle.ent_functions.specs.declared.arg.Arg.{Arg}
use Rattle.ent_functions.specs.declared.arg.Arg.TheVariants.{One}
use Rattle.ent_functions.specs.declared.function.Function.{Function}
use Rattle.ent_functions.specs.declared.function.Function.TheVariants as functions
use Rattle.ent_functions.specs.declared.types.ArgType.TheVariants as types
use Rattle.ent_functions.proofs.Inner.{test_by_type}
use Rattle.ent_functions.proofs.Comparing.{one_boolean, not_taken, texts_taken, two_values_taken}

same_types : (arguments : List Value) → map type_of_arg (map One arguments) ≡ map (λ value. types.One (datatype_of value)) arguments
same_types [] = refl
same_types (value ∷ arguments) = ap (λ rest. types.One (datatype_of value) ∷ rest) (same_types arguments)

values_alone : (arguments : List Value) → map one_of (map (λ value. types.One (datatype_of value)) arguments) ≡ map (λ value. types.One (datatype_of value)) arguments
values_alone [] = refl
values_alone (value ∷ arguments) = ap (λ rest. types.One (datatype_of value) ∷ rest) (values_alone arguments)

pub is_text : (value : Value) → datatype_of value ≡ data_types.Text → (text : List ℕ) × (value ≡ values.Text text)
is_text (values.Text text) is = (text, refl)
is_text (values.Boolean v) is = absurd (cc)
is_text (values.Integer v) is = absurd (cc)
is_text (values.Date v) is = absurd (cc)
is_text (values.AnyUri v) is = absurd (cc)
is_text (values.YearMonth v) is = absurd (cc)
is_text (values.Time v) is = absurd (cc)
is_text (values.DateTime v) is = absurd (cc)

of_texts_is : (f : List ℕ → List ℕ → Bool) (a b : Value) (first second : List ℕ) → a ≡ values.Text first → b ≡ values.Text second
    → of_texts (λ first second. truth (f first second)) a b ≡ truth (f first second)
of_texts_is f a b first second is also = rw (is, also)

of_two_texts : (f : List ℕ → List ℕ → Bool) (a b : Value) → (datatype_of a ≡ data_types.Text) × (datatype_of b ≡ data_types.Text)
    → (answer : Bool) × (of_texts (λ first second. truth (f first second)) a b ≡ truth answer)
of_two_texts f a b are =
    let first = is_text a are.0 in
    let second = is_text b are.1 in
    (f first.0 second.0, of_texts_is f a b first.0 second.0 first.1 second.1)

of_two : (function : Function) (first second : Value) → is_test_of_two function ≡ true → Takes function (One first ∷ One second ∷ [])
    → (answer : Bool) × (first_order function (One first ∷ One second ∷ []) ≡ truth answer)
unfolding first_order
of_two (functions.Equal e) first second test taken = (same_value first second, refl)
of_two (functions.Compare k o) first second test taken = (stands k (value_order first second), refl)
of_two functions.StartsWith first second test taken = of_two_texts begins_with first second (texts_taken functions.StartsWith first second refl taken)
of_two functions.EndsWith first second test taken = of_two_texts ends_with first second (texts_taken functions.EndsWith first second refl taken)
of_two functions.Contains first second test taken = of_two_texts has_part first second (texts_taken functions.Contains first second refl taken)
of_two _ first second test taken = absurd (cc)

by_two : (function : Function) (arguments : List Arg) → is_test_of_two function ≡ true → Takes function arguments → (answer : Bool) × (first_order function arguments ≡ truth answer)
by_two function arguments test taken =
    let two = two_values_taken function arguments test taken in
    let answer = of_two function two.0 two.1 test (subst (λ (xs : List Arg). Takes function xs) two.2 taken) in
    (answer.0, ap (first_order function) two.2 ∙ answer.1)

by_test : (function : Function) (arguments : List Arg) → is_test function ≡ true → Takes function arguments → (answer : Bool) × (first_order function arguments ≡ truth answer)
unfolding first_order
by_test functions.Or arguments test taken = (list_any is_true arguments, refl)
by_test functions.And arguments test taken = (list_all is_true arguments, refl)
by_test functions.Not arguments test taken = (not (list_any is_true arguments), one_boolean arguments (not_taken arguments taken))
by_test function arguments test taken = by_two function arguments test taken

of_first : (function : Function) (arguments : List Value) → first_order_type function (map (λ value. types.One (datatype_of value)) arguments) ≡ Some boolean
    → (answer : Bool) × (first_order function (map One arguments) ≡ truth answer)
of_first function arguments is =
    let seen : is_boolean (first_order_type function (map one_of (map (λ value. types.One (datatype_of value)) arguments))) ≡ true =
    rw (values_alone arguments, is) refl in
    let taken : Takes function (map One arguments) = rw (same_types arguments, is) refl in
    by_test function (map One arguments) (test_by_type function (map (λ value. types.One (datatype_of value)) arguments) seen) taken

pub no_fault : (function : Function) (arguments : List Value) → result_type_of function (map (λ value. types.One (datatype_of value)) arguments) ≡ Some boolean
    → (answer : Bool) × (applied function (map One arguments) ≡ truth answer)
unfolding result_type_of higher_order_type applied
no_fault functions.AnyOf [] is = absurd (cc)
no_fault functions.AnyOf (value ∷ arguments) is = absurd (cc)
no_fault functions.AllOf [] is = absurd (cc)
no_fault functions.AllOf (value ∷ arguments) is = absurd (cc)
no_fault function arguments is = of_first function arguments is
