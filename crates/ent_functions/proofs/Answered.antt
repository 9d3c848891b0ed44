-- A call that is well typed has a value, or a fault of the function's own.
use Rattle.std.proofs.Common.{◌≡◌, ℕ, ℤ, pos, negsuc, Bool, true, false, List, [], ◌∷◌, map, refl, ap, sym, ◌∙◌}
use Rattle.std.specs.Prelude.{IsSome, Result, Ok, Err, ◌+ℤ◌, ◌-ℤ◌, ◌*ℤ◌, neg_ℤ, int_div, int_rem, unsigned_abs, ◌&&◌, nat_le, nat_lt, length, not, if◌then◌else◌}
use Rattle.std.specs.List.{list_all}
use Rattle.ent_values.specs.Order.{value_order}
use Rattle.ent_values.specs.Calendar.{Day}
use Rattle.ent_values.specs.Reading.{is_within_64_bits}
use Rattle.ent_values.specs.Types.{datatype_of}
use Rattle.ent_values.specs.declared.datatype.DataType.{DataType}
use Rattle.ent_values.specs.declared.datatype.DataType.TheVariants as data_types
use Rattle.ent_values.specs.declared.value.Value.{Value}
use Rattle.ent_values.specs.declared.value.Value.TheVariants as values
use Rattle.ent_functions.specs.Applied.{all_of, any_of, applied, bag_result, first_order}
use Rattle.ent_functions.specs.Arguments.{HasAnswer, type_of_arg, truth, of_bag, of_boolean, of_date_and_months, of_integer, of_integers, of_texts, of_two_bags, of_two_values, of_value_and_bag, integers_of}
use Rattle.ent_functions.specs.Arguments as arguments_of
use Rattle.ent_functions.specs.Dates.{date_in_month, day_in_month, month_number, months_later}
use Rattle.ent_functions.specs.Integers.{from_left, is_zero, partial_results, quotient, remainder, within_64_bits, whole_result}
use Rattle.ent_functions.specs.proofs_only.Reading.{AreOneBag, AreTwoBags, AreTwoValues, AreValueAndBag, Takes}
use Rattle.ent_functions.specs.Sets.{are_equal_sets, have_common, in_both, is_among, is_subset, only_value}
use Rattle.ent_functions.specs.Orders.{stands}
use Rattle.ent_functions.specs.Texts.{begins_with, ends_with, has_part}
use Rattle.ent_values.specs.Same.{same_value}
use Rattle.ent_functions.specs.Types.{boolean, date, duration, element_type, first_order_type, higher_order_type, integer, result_type_of, text}
use Rattle.ent_functions.specs.declared.arg.Arg.{Arg}
use Rattle.ent_functions.specs.declared.arg.Arg.TheVariants.{One, Many, Fun}
use Rattle.ent_functions.specs.declared.arg.Fault.{Fault}
use Rattle.ent_functions.specs.declared.arg.Fault.TheVariants.{DateRange, DivideByZero, Overflow}
use Rattle.ent_functions.specs.declared.function.Function.{Function}
use Rattle.ent_functions.specs.declared.function.Function.TheVariants as functions
use Rattle.ent_functions.specs.declared.types.ArgType.TheVariants as types
use Rattle.ent_functions.proofs.Taking.{exactly_types}
use Rattle.ent_functions.proofs.NoFault.{is_text}
use Rattle.ent_functions.proofs.Numbers.{one_integer_taken, two_integers_taken}
use Rattle.ent_functions.proofs.Taken.{date_sum_taken, intersection_taken, one_bag_taken, two_bags_of, two_bags_taken, value_and_bag_taken}
use Rattle.ent_functions.proofs.Comparing.{not_taken, two_values_of, two_values_taken}

if_answered : (b : Bool) (x y : Result Arg Fault) → HasAnswer x → HasAnswer y → HasAnswer (if b then x else y)
if_answered true x y first second = first
if_answered false x y first second = second

is_integer : (value : Value) → datatype_of value ≡ data_types.Integer → (n : ℤ) × (value ≡ values.Integer n)
is_integer (values.Integer n) is = (n, refl)
is_integer (values.Text v) is = absurd (cc)
is_integer (values.Boolean v) is = absurd (cc)
is_integer (values.Date v) is = absurd (cc)
is_integer (values.AnyUri v) is = absurd (cc)
is_integer (values.YearMonth v) is = absurd (cc)
is_integer (values.Time v) is = absurd (cc)
is_integer (values.DateTime v) is = absurd (cc)

is_date : (value : Value) → datatype_of value ≡ data_types.Date → (d : Day) × (value ≡ values.Date d)
is_date (values.Date d) is = (d, refl)
is_date (values.Text v) is = absurd (cc)
is_date (values.Boolean v) is = absurd (cc)
is_date (values.Integer v) is = absurd (cc)
is_date (values.AnyUri v) is = absurd (cc)
is_date (values.YearMonth v) is = absurd (cc)
is_date (values.Time v) is = absurd (cc)
is_date (values.DateTime v) is = absurd (cc)

is_months : (value : Value) → datatype_of value ≡ data_types.YearMonth → (m : ℤ) × (value ≡ values.YearMonth m)
is_months (values.YearMonth m) is = (m, refl)
is_months (values.Text v) is = absurd (cc)
is_months (values.Boolean v) is = absurd (cc)
is_months (values.Integer v) is = absurd (cc)
is_months (values.AnyUri v) is = absurd (cc)
is_months (values.Date v) is = absurd (cc)
is_months (values.Time v) is = absurd (cc)
is_months (values.DateTime v) is = absurd (cc)

-- the types of two values
two_types : (s t : DataType) (a b : Value) (arguments : List Arg) → arguments ≡ One a ∷ One b ∷ [] → map type_of_arg arguments ≡ types.One s ∷ types.One t ∷ []
    → (datatype_of a ≡ s) × (datatype_of b ≡ t)
two_types s t a b arguments are seen_types =
    let seen : types.One (datatype_of a) ∷ types.One (datatype_of b) ∷ [] ≡ types.One s ∷ types.One t ∷ [] = ap (map type_of_arg) (sym are) ∙ seen_types in
    let first : datatype_of a ≡ s = cc in
    let second : datatype_of b ≡ t = cc in
    (first, second)

integers_are : (f : ℤ → ℤ → Result Arg Fault) (arguments : List Arg) (a b : Value) (m n : ℤ) → arguments ≡ One a ∷ One b ∷ [] → a ≡ values.Integer m → b ≡ values.Integer n
    → HasAnswer (f m n) → HasAnswer (of_two_values (of_integers f) arguments)
integers_are f arguments a b m n are first second has = rw (are, first, second) has

dates_are : (f : Day → ℤ → Result Arg Fault) (arguments : List Arg) (a b : Value) (m : Day) (n : ℤ) → arguments ≡ One a ∷ One b ∷ [] → a ≡ values.Date m → b ≡ values.YearMonth n
    → HasAnswer (f m n) → HasAnswer (of_two_values (of_date_and_months f) arguments)
dates_are f arguments a b m n are first second has = rw (are, first, second) has

texts_are : (f : List ℕ → List ℕ → Bool) (arguments : List Arg) (a b : Value) (m n : List ℕ) → arguments ≡ One a ∷ One b ∷ [] → a ≡ values.Text m → b ≡ values.Text n
    → HasAnswer (of_two_values (of_texts (λ a b. truth (f a b))) arguments)
texts_are f arguments a b m n are first second = rw (are, first, second) tt

integers_answered : (f : ℤ → ℤ → Result Arg Fault) (arguments : List Arg) → map type_of_arg arguments ≡ integer ∷ integer ∷ []
    → ((a b : ℤ) → HasAnswer (f a b)) → HasAnswer (of_two_values (of_integers f) arguments)
integers_answered f arguments types has =
    let two = two_values_of data_types.Integer data_types.Integer arguments types in
    let are = two_types data_types.Integer data_types.Integer two.0 two.1 arguments two.2 types in
    let a = is_integer two.0 are.0 in
    let b = is_integer two.1 are.1 in
    integers_are f arguments two.0 two.1 a.0 b.0 two.2 a.1 b.1 (has a.0 b.0)

dates_answered : (f : Day → ℤ → Result Arg Fault) (arguments : List Arg) → map type_of_arg arguments ≡ date ∷ duration ∷ []
    → ((a : Day) (b : ℤ) → HasAnswer (f a b)) → HasAnswer (of_two_values (of_date_and_months f) arguments)
dates_answered f arguments types has =
    let two = two_values_of data_types.Date data_types.YearMonth arguments types in
    let are = two_types data_types.Date data_types.YearMonth two.0 two.1 arguments two.2 types in
    let a = is_date two.0 are.0 in
    let b = is_months two.1 are.1 in
    dates_are f arguments two.0 two.1 a.0 b.0 two.2 a.1 b.1 (has a.0 b.0)

texts_answered : (f : List ℕ → List ℕ → Bool) (arguments : List Arg) → map type_of_arg arguments ≡ text ∷ text ∷ []
    → HasAnswer (of_two_values (of_texts (λ a b. truth (f a b))) arguments)
texts_answered f arguments types =
    let two = two_values_of data_types.Text data_types.Text arguments types in
    let are = two_types data_types.Text data_types.Text two.0 two.1 arguments two.2 types in
    let a = is_text two.0 are.0 in
    let b = is_text two.1 are.1 in
    texts_are f arguments two.0 two.1 a.0 b.0 two.2 a.1 b.1

values_answered : (f : Value → Value → Bool) (arguments : List Arg) → AreTwoValues arguments → HasAnswer (of_two_values (λ a b. truth (f a b)) arguments)
values_answered f arguments two = rw two.2 tt

within_answered : (number : ℤ) → HasAnswer (within_64_bits number)
within_answered number = if_answered (is_within_64_bits number) (arguments_of.integer number) (Err Overflow) tt tt

from_left_answered : (f : ℤ → ℤ → ℤ) (first : ℤ) (numbers : List ℤ) → HasAnswer (from_left f first numbers)
from_left_answered f first numbers =
    if_answered (list_all is_within_64_bits (partial_results f first numbers)) (arguments_of.integer (whole_result f first numbers)) (Err Overflow) tt tt

quotient_answered : (a b : ℤ) → HasAnswer (quotient a b)
quotient_answered a b = if_answered (is_zero b) (Err DivideByZero) (within_64_bits (int_div a b)) tt (within_answered (int_div a b))

remainder_answered : (a b : ℤ) → HasAnswer (remainder a b)
remainder_answered a b = if_answered (is_zero b) (Err DivideByZero) (arguments_of.integer (int_rem a b)) tt tt

date_answered : (number : ℤ) (day : ℕ) → HasAnswer (date_in_month number day)
date_answered (pos number) day =
    if_answered (nat_le 12 number && nat_lt number 120000) (Ok (One (values.Date (day_in_month number day)))) (Err DateRange) tt tt
date_answered (negsuc number) day = tt

only_answered : (contents : List Value) → HasAnswer (only_value contents)
only_answered [] = tt
only_answered (value ∷ []) = tt
only_answered (value ∷ next ∷ rest) = tt

absolute_answered : (arguments : List Arg) → map type_of_arg arguments ≡ integer ∷ [] → HasAnswer (of_integer (λ n. within_64_bits (pos (unsigned_abs n))) arguments)
absolute_answered [] types = absurd (cc)
absolute_answered (One (values.Integer n) ∷ []) types = within_answered (pos (unsigned_abs n))
absolute_answered (One (values.Text n) ∷ []) types = absurd (cc)
absolute_answered (One (values.Boolean n) ∷ []) types = absurd (cc)
absolute_answered (One (values.Date n) ∷ []) types = absurd (cc)
absolute_answered (One (values.AnyUri n) ∷ []) types = absurd (cc)
absolute_answered (One (values.YearMonth n) ∷ []) types = absurd (cc)
absolute_answered (One (values.Time n) ∷ []) types = absurd (cc)
absolute_answered (One (values.DateTime n) ∷ []) types = absurd (cc)
absolute_answered (Many n ∷ []) types = absurd (cc)
absolute_answered (Fun n ∷ []) types = absurd (cc)
absolute_answered (a ∷ b ∷ rest) types = absurd (cc)

two_bags_answered : (f : List Value → List Value → Result Arg Fault) (arguments : List Arg) → AreTwoBags arguments
    → ((a b : List Value) → HasAnswer (f a b)) → HasAnswer (of_two_bags f arguments)
two_bags_answered f arguments two has = rw two.2 (has two.0.values two.1.values)

not_answered : (arguments : List Arg) → map type_of_arg arguments ≡ boolean ∷ [] → HasAnswer (of_boolean (λ b. truth (not b)) arguments)
not_answered [] types = absurd (cc)
not_answered (One (values.Boolean b) ∷ []) types = tt
not_answered (One (values.Text b) ∷ []) types = absurd (cc)
not_answered (One (values.Integer b) ∷ []) types = absurd (cc)
not_answered (One (values.Date b) ∷ []) types = absurd (cc)
not_answered (One (values.AnyUri b) ∷ []) types = absurd (cc)
not_answered (One (values.YearMonth b) ∷ []) types = absurd (cc)
not_answered (One (values.Time b) ∷ []) types = absurd (cc)
not_answered (One (values.DateTime b) ∷ []) types = absurd (cc)
not_answered (Many b ∷ []) types = absurd (cc)
not_answered (Fun b ∷ []) types = absurd (cc)
not_answered (a ∷ b ∷ rest) types = absurd (cc)

one_bag_answered : (f : List Value → Result Arg Fault) (arguments : List Arg) → AreOneBag arguments → ((contents : List Value) → HasAnswer (f contents)) → HasAnswer (of_bag f arguments)
one_bag_answered f arguments one has = rw one.1 (has one.0.values)

value_and_bag_answered : (f : Value → List Value → Bool) (arguments : List Arg) → AreValueAndBag arguments → HasAnswer (of_value_and_bag (λ value contents. truth (f value contents)) arguments)
value_and_bag_answered f arguments two = rw two.2 tt

-- functions that take no function
pub first_order_answered : (function : Function) (arguments : List Arg) → Takes function arguments → HasAnswer (first_order function arguments)
unfolding first_order first_order_type
first_order_answered (functions.Equal e) arguments taken = values_answered same_value arguments (two_values_taken (functions.Equal e) arguments refl taken)
first_order_answered (functions.Compare k o) arguments taken = values_answered (λ a b. stands k (value_order a b)) arguments (two_values_taken (functions.Compare k o) arguments refl taken)
first_order_answered functions.Add arguments taken = from_left_answered ◌+ℤ◌ (pos 0) (integers_of arguments)
first_order_answered functions.Multiply arguments taken = from_left_answered ◌*ℤ◌ (pos 1) (integers_of arguments)
first_order_answered functions.Subtract arguments taken = integers_answered (λ a b. within_64_bits (a -ℤ b)) arguments (two_integers_taken functions.Subtract arguments refl taken) (λ a b. within_answered (a -ℤ b))
first_order_answered functions.Divide arguments taken = integers_answered quotient arguments (two_integers_taken functions.Divide arguments refl taken) quotient_answered
first_order_answered functions.Mod arguments taken = integers_answered remainder arguments (two_integers_taken functions.Mod arguments refl taken) remainder_answered
first_order_answered functions.Abs arguments taken = absolute_answered arguments (one_integer_taken arguments taken)
first_order_answered functions.Or arguments taken = tt
first_order_answered functions.And arguments taken = tt
first_order_answered functions.Not arguments taken = not_answered arguments (not_taken arguments taken)
first_order_answered (functions.OneAndOnly e) arguments taken = one_bag_answered only_value arguments (one_bag_taken (functions.OneAndOnly e) arguments refl taken) only_answered
first_order_answered (functions.BagSize e) arguments taken = one_bag_answered (λ contents. within_64_bits (pos (length contents))) arguments (one_bag_taken (functions.BagSize e) arguments refl taken) (λ contents. within_answered (pos (length contents)))
first_order_answered (functions.IsIn e) arguments taken = value_and_bag_answered is_among arguments (value_and_bag_taken e arguments taken)
first_order_answered (functions.Bag e) arguments taken = tt
first_order_answered (functions.Union e) arguments taken = tt
first_order_answered functions.Concatenate arguments taken = tt
first_order_answered (functions.Intersection e) arguments taken = two_bags_answered (λ a b. bag_result e (in_both a b)) arguments (two_bags_of (element_type e) (element_type e) arguments (intersection_taken e arguments taken)) (λ a b. tt)
first_order_answered (functions.AtLeastOneMemberOf e) arguments taken = two_bags_answered (λ a b. truth (have_common a b)) arguments (two_bags_taken (functions.AtLeastOneMemberOf e) arguments refl taken) (λ a b. tt)
first_order_answered (functions.Subset e) arguments taken = two_bags_answered (λ a b. truth (is_subset a b)) arguments (two_bags_taken (functions.Subset e) arguments refl taken) (λ a b. tt)
first_order_answered (functions.SetEquals e) arguments taken = two_bags_answered (λ a b. truth (are_equal_sets a b)) arguments (two_bags_taken (functions.SetEquals e) arguments refl taken) (λ a b. tt)
first_order_answered functions.StartsWith arguments taken = texts_answered begins_with arguments (exactly_types (text ∷ text ∷ []) boolean (map type_of_arg arguments) refl taken)
first_order_answered functions.EndsWith arguments taken = texts_answered ends_with arguments (exactly_types (text ∷ text ∷ []) boolean (map type_of_arg arguments) refl taken)
first_order_answered functions.Contains arguments taken = texts_answered has_part arguments (exactly_types (text ∷ text ∷ []) boolean (map type_of_arg arguments) refl taken)
first_order_answered functions.DateAdd arguments taken = dates_answered months_later arguments (date_sum_taken functions.DateAdd arguments refl taken) (λ d m. date_answered (pos (month_number d) +ℤ m) d.day)
first_order_answered functions.DateSubtract arguments taken = dates_answered (λ d m. months_later d (neg_ℤ m)) arguments (date_sum_taken functions.DateSubtract arguments refl taken) (λ d m. date_answered (pos (month_number d) +ℤ neg_ℤ m) d.day)
first_order_answered functions.AnyOf arguments taken = absurd (cc)
first_order_answered functions.AllOf arguments taken = absurd (cc)

higher_answered : (arguments : List Arg) → IsSome (higher_order_type (map type_of_arg arguments)) → HasAnswer (any_of arguments) × HasAnswer (all_of arguments)
unfolding any_of all_of higher_order_type
higher_answered (Fun function ∷ arguments) some = (tt, tt)
higher_answered [] some = absurd (cc)
higher_answered (One v ∷ arguments) some = absurd (cc)
higher_answered (Many v ∷ arguments) some = absurd (cc)

-- a well typed call has a value or a fault of the function's own
pub answered : (function : Function) (arguments : List Arg) → IsSome (result_type_of function (map type_of_arg arguments)) → HasAnswer (applied function arguments)
unfolding result_type_of applied
answered functions.AnyOf arguments some = (higher_answered arguments some).0
answered functions.AllOf arguments some = (higher_answered arguments some).1
answered function arguments some = first_order_answered function arguments some
