-- Functions of values that give a boolean.
use Rattle.std.proofs.Common.{◌≡◌, Bool, true, false, List, [], ◌∷◌, map, refl, ap, sym, ◌∙◌}
use Rattle.std.specs.Prelude.{◌&&◌, ◌||◌, not, Option, None}
use Rattle.std.specs.List.{list_any, list_all}
use Rattle.ent_values.specs.Types.{datatype_of}
use Rattle.ent_values.specs.declared.datatype.DataType.{DataType}
use Rattle.ent_values.specs.declared.datatype.DataType.TheVariants as data_types
use Rattle.ent_values.specs.declared.value.Value.{Value}
use Rattle.ent_values.specs.declared.value.Value.TheVariants as values
use Rattle.ent_functions.specs.Applied.{first_order}
use Rattle.ent_functions.specs.Arguments.{type_of_arg, truth, is_true}
use Rattle.ent_functions.specs.proofs_only.Reading.{Takes, AreTwoValues, is_test, is_test_of_two, seen_argument, seen_arguments}
use Rattle.ent_functions.specs.Types.{first_order_type, element_type, ordered_type, boolean, text, value_of}
use Rattle.ent_functions.specs.declared.arg.Arg.{Arg}
use Rattle.ent_functions.specs.declared.arg.Arg.TheVariants.{One, Many, Fun}
use Rattle.ent_functions.specs.declared.function.Function.{Function}
use Rattle.ent_functions.specs.declared.function.Function.TheVariants as functions
use Rattle.ent_functions.specs.declared.types.ArgType.TheVariants as types
use Rattle.ent_functions.proofs.Taking.{exactly_types}

-- arguments with the types of two values are two values
pub two_values_of : (s t : DataType) (arguments : List Arg) → map type_of_arg arguments ≡ types.One s ∷ types.One t ∷ [] → AreTwoValues arguments
two_values_of s t [] is = absurd (cc)
two_values_of s t (One v ∷ []) is = absurd (cc)
two_values_of s t (Many v ∷ rest) is = absurd (cc)
two_values_of s t (Fun v ∷ rest) is = absurd (cc)
two_values_of s t (One v ∷ One w ∷ []) is = (v, w, refl)
two_values_of s t (One v ∷ Many w ∷ rest) is = absurd (cc)
two_values_of s t (One v ∷ Fun w ∷ rest) is = absurd (cc)
two_values_of s t (One v ∷ One w ∷ x ∷ rest) is = absurd (cc)

two_values_types : (function : Function) (arguments : List Arg) → is_test_of_two function ≡ true → Takes function arguments
    → (s t : DataType) × (map type_of_arg arguments ≡ types.One s ∷ types.One t ∷ [])
unfolding first_order_type
two_values_types (functions.Equal e) arguments test taken =
    (element_type e, element_type e, exactly_types (value_of e ∷ value_of e ∷ []) boolean (map type_of_arg arguments) refl taken)
two_values_types (functions.Compare k o) arguments test taken =
    (ordered_type o, ordered_type o, exactly_types (types.One (ordered_type o) ∷ types.One (ordered_type o) ∷ []) boolean (map type_of_arg arguments) refl taken)
two_values_types functions.StartsWith arguments test taken =
    (data_types.Text, data_types.Text, exactly_types (text ∷ text ∷ []) boolean (map type_of_arg arguments) refl taken)
two_values_types functions.EndsWith arguments test taken =
    (data_types.Text, data_types.Text, exactly_types (text ∷ text ∷ []) boolean (map type_of_arg arguments) refl taken)
two_values_types functions.Contains arguments test taken =
    (data_types.Text, data_types.Text, exactly_types (text ∷ text ∷ []) boolean (map type_of_arg arguments) refl taken)
two_values_types _ arguments test taken = absurd (cc)

-- a function of two values that gives a boolean takes two values
pub two_values_taken : (function : Function) (arguments : List Arg) → is_test_of_two function ≡ true → Takes function arguments → AreTwoValues arguments
two_values_taken function arguments test taken =
    let found = two_values_types function arguments test taken in
    two_values_of found.0 found.1 arguments found.2

any_mapped : {A B : Type 0} (p : B → Bool) (f : A → B) (xs : List A) → list_any p (map f xs) ≡ list_any (λ x. p (f x)) xs
any_mapped p f [] = refl
any_mapped p f (x ∷ xs) = ap (λ rest. p (f x) || rest) (any_mapped p f xs)

all_mapped : {A B : Type 0} (p : B → Bool) (f : A → B) (xs : List A) → list_all p (map f xs) ≡ list_all (λ x. p (f x)) xs
all_mapped p f [] = refl
all_mapped p f (x ∷ xs) = ap (λ rest. p (f x) && rest) (all_mapped p f xs)

pub or_is : (value : Option Value) (arguments : List Arg) → first_order functions.Or (seen_arguments value arguments) ≡ truth (list_any (λ argument. is_true (seen_argument value argument)) arguments)
unfolding first_order
or_is value arguments = ap truth (any_mapped is_true (seen_argument value) arguments)

pub and_is : (value : Option Value) (arguments : List Arg) → first_order functions.And (seen_arguments value arguments) ≡ truth (list_all (λ argument. is_true (seen_argument value argument)) arguments)
unfolding first_order
and_is value arguments = ap truth (all_mapped is_true (seen_argument value) arguments)

or_false : (b : Bool) → b || false ≡ b
or_false true = refl
or_false false = refl

pub one_boolean : (arguments : List Arg) → map type_of_arg arguments ≡ boolean ∷ [] → first_order functions.Not arguments ≡ truth (not (list_any is_true arguments))
unfolding first_order
one_boolean [] is = absurd (cc)
one_boolean (One (values.Boolean b) ∷ []) is = ap (λ b. truth (not b)) (sym (or_false b))
one_boolean (One (values.Text b) ∷ []) is = absurd (cc)
one_boolean (One (values.Integer b) ∷ []) is = absurd (cc)
one_boolean (One (values.Date b) ∷ []) is = absurd (cc)
one_boolean (One (values.AnyUri b) ∷ []) is = absurd (cc)
one_boolean (One (values.YearMonth b) ∷ []) is = absurd (cc)
one_boolean (One (values.Time b) ∷ []) is = absurd (cc)
one_boolean (One (values.DateTime b) ∷ []) is = absurd (cc)
one_boolean (Many b ∷ []) is = absurd (cc)
one_boolean (Fun b ∷ []) is = absurd (cc)
one_boolean (a ∷ b ∷ rest) is = absurd (cc)

pub not_taken : (arguments : List Arg) → Takes functions.Not arguments → map type_of_arg arguments ≡ boolean ∷ []
unfolding first_order_type
not_taken arguments taken = exactly_types (boolean ∷ []) boolean (map type_of_arg arguments) refl taken

pub not_is : (value : Option Value) (arguments : List Arg) → Takes functions.Not (seen_arguments value arguments)
    → first_order functions.Not (seen_arguments value arguments) ≡ truth (not (list_any (λ argument. is_true (seen_argument value argument)) arguments))
not_is value arguments taken =
    one_boolean (seen_arguments value arguments) (not_taken (seen_arguments value arguments) taken)
    ∙ ap (λ b. truth (not b)) (any_mapped is_true (seen_argument value) arguments)

text_types : (first second : Value) → map type_of_arg (One first ∷ One second ∷ []) ≡ text ∷ text ∷ [] → (datatype_of first ≡ data_types.Text) × (datatype_of second ≡ data_types.Text)
text_types first second is =
    let a : datatype_of first ≡ data_types.Text = cc in
    let b : datatype_of second ≡ data_types.Text = cc in
    (a, b)

abbrev pub is_text_test : Function → Bool
is_text_test functions.StartsWith = true
is_text_test functions.EndsWith = true
is_text_test functions.Contains = true
is_text_test _ = false

-- a function of two strings that gives a boolean takes two strings
pub texts_taken : (function : Function) (first second : Value) → is_text_test function ≡ true → Takes function (One first ∷ One second ∷ [])
    → (datatype_of first ≡ data_types.Text) × (datatype_of second ≡ data_types.Text)
unfolding first_order_type
texts_taken functions.StartsWith first second test taken =
    text_types first second (exactly_types (text ∷ text ∷ []) boolean (map type_of_arg (One first ∷ One second ∷ [])) refl taken)
texts_taken functions.EndsWith first second test taken =
    text_types first second (exactly_types (text ∷ text ∷ []) boolean (map type_of_arg (One first ∷ One second ∷ [])) refl taken)
texts_taken functions.Contains first second test taken =
    text_types first second (exactly_types (text ∷ text ∷ []) boolean (map type_of_arg (One first ∷ One second ∷ [])) refl taken)
texts_taken _ first second test taken = absurd (cc)

pub test_of_two : (function : Function) → (function ≡ functions.Or → ⊥) → (function ≡ functions.And → ⊥) → (function ≡ functions.Not → ⊥) → is_test function ≡ true → is_test_of_two function ≡ true
test_of_two functions.Or or and not test = absurd (or refl)
test_of_two functions.And or and not test = absurd (and refl)
test_of_two functions.Not or and not test = absurd (not refl)
test_of_two _ or and not test = test

-- with nothing in a bag's place the arguments are seen as they are
pub seen_none : (arguments : List Arg) → seen_arguments None arguments ≡ arguments
seen_none [] = refl
seen_none (argument ∷ arguments) = ap (λ rest. argument ∷ rest) (seen_none arguments)

-- what the functions of values that give a boolean take and come to
pub ruleset tests = (two_values_taken, or_is, and_is, not_is)
