-- The type of what each function comes to.
use Rattle.std.proofs.Common.{◌≡◌, ℕ, ℤ, pos, negsuc, Bool, true, false, List, [], ◌∷◌, map, refl, ap, subst, ◌∙◌}
use Rattle.std.specs.Prelude.{All, Some, None, IsSome, IfOk, Result, Ok, Err, ◌+ℤ◌, ◌-ℤ◌, ◌*ℤ◌, neg_ℤ, int_div, int_rem, unsigned_abs, ◌&&◌, nat_le, nat_lt, length, not, if◌then◌else◌}
use Rattle.std.specs.Cmp.Lexicographic.{pointwise}
use Rattle.std.specs.List.{list_all}
use Rattle.std.proofs.lemmas.List.Elements.{All-head}
use Rattle.ent_values.specs.Order.{value_order}
use Rattle.ent_values.specs.Calendar.{Day}
use Rattle.ent_values.specs.Reading.{is_within_64_bits}
use Rattle.ent_values.specs.Same.{same_value}
use Rattle.ent_values.specs.Types.{datatype_of}
use Rattle.ent_values.specs.declared.value.Value.{Value}
use Rattle.ent_values.specs.declared.value.Value.TheVariants as values
use Rattle.ent_functions.specs.Applied.{applied, first_order, sorts}
use Rattle.ent_functions.specs.Arguments.{Applies, type_of_arg, truth, of_bag, of_boolean, of_date_and_months, of_integer, of_integers, of_texts, of_two_bags, of_two_values, of_value_and_bag, integers_of}
use Rattle.ent_functions.specs.Arguments as arguments_of
use Rattle.ent_functions.specs.Dates.{date_in_month, month_number, months_later}
use Rattle.ent_functions.specs.Integers.{from_left, is_zero, partial_results, quotient, remainder, within_64_bits}
use Rattle.ent_functions.specs.proofs_only.Reading.{IsHeld, Takes, is_one_and_only}
use Rattle.ent_functions.specs.Sets.{are_equal_sets, have_common, is_among, is_subset, only_value}
use Rattle.ent_functions.specs.Orders.{stands}
use Rattle.ent_functions.specs.Texts.{begins_with, ends_with, has_part}
use Rattle.ent_functions.specs.Types.{bag_of, boolean, date, duration, each, exactly, first_order_type, higher_order_type, integer, ordered_type, result_type_of, same_type, text, two_or_more, value_of}
use Rattle.ent_functions.specs.declared.arg.Arg.{Arg}
use Rattle.ent_functions.specs.declared.arg.Arg.TheVariants.{One, Many, Fun}
use Rattle.ent_functions.specs.declared.arg.Fault.{Fault}
use Rattle.ent_functions.specs.declared.arg.Fault.TheVariants.{DivideByZero, Overflow, DateRange}
use Rattle.ent_functions.specs.declared.function.Function.{Function}
use Rattle.ent_functions.specs.declared.function.Function.TheVariants as functions
use Rattle.ent_functions.specs.declared.types.ArgType.{ArgType}
use Rattle.ent_functions.specs.declared.types.ArgType.TheVariants as types
use Rattle.ent_functions.proofs.Taking.{exactly_types}

-- a result, if there is one, has that type
abbrev pub HasType : ArgType → Result Arg Fault → Type 0
HasType type (Ok outcome) = type_of_arg outcome ≡ type
HasType type (Err fault) = Unit {0}

if_typed : (b : Bool) (type : ArgType) (x y : Result Arg Fault) → HasType type x → HasType type y → HasType type (if b then x else y)
if_typed true type x y first second = first
if_typed false type x y first second = second

boolean_typed : (type : ArgType) (f : Bool → Result Arg Fault) (arguments : List Arg) → ((b : Bool) → HasType type (f b)) → HasType type (of_boolean f arguments)
boolean_typed type f (One (values.Boolean b) ∷ []) has = has b
boolean_typed type f _ has = tt

integer_typed : (type : ArgType) (f : ℤ → Result Arg Fault) (arguments : List Arg) → ((n : ℤ) → HasType type (f n)) → HasType type (of_integer f arguments)
integer_typed type f (One (values.Integer n) ∷ []) has = has n
integer_typed type f _ has = tt

two_values_typed : (type : ArgType) (f : Value → Value → Result Arg Fault) (arguments : List Arg) → ((a b : Value) → HasType type (f a b)) → HasType type (of_two_values f arguments)
two_values_typed type f (One a ∷ One b ∷ []) has = has a b
two_values_typed type f _ has = tt

integers_typed : (type : ArgType) (f : ℤ → ℤ → Result Arg Fault) → ((a b : ℤ) → HasType type (f a b)) → (a b : Value) → HasType type (of_integers f a b)
integers_typed type f has (values.Integer a) (values.Integer b) = has a b
integers_typed type f has _ _ = tt

texts_typed : (type : ArgType) (f : List ℕ → List ℕ → Result Arg Fault) → ((a b : List ℕ) → HasType type (f a b)) → (a b : Value) → HasType type (of_texts f a b)
texts_typed type f has (values.Text a) (values.Text b) = has a b
texts_typed type f has _ _ = tt

dates_typed : (type : ArgType) (f : Day → ℤ → Result Arg Fault) → ((a : Day) (b : ℤ) → HasType type (f a b)) → (a b : Value) → HasType type (of_date_and_months f a b)
dates_typed type f has (values.Date a) (values.YearMonth b) = has a b
dates_typed type f has _ _ = tt

bag_typed : (type : ArgType) (f : List Value → Result Arg Fault) (arguments : List Arg) → ((b : List Value) → HasType type (f b)) → HasType type (of_bag f arguments)
bag_typed type f (Many b ∷ []) has = has b.values
bag_typed type f _ has = tt

value_and_bag_typed : (type : ArgType) (f : Value → List Value → Result Arg Fault) (arguments : List Arg) → ((a : Value) (b : List Value) → HasType type (f a b)) → HasType type (of_value_and_bag f arguments)
value_and_bag_typed type f (One a ∷ Many b ∷ []) has = has a b.values
value_and_bag_typed type f _ has = tt

two_bags_typed : (type : ArgType) (f : List Value → List Value → Result Arg Fault) (arguments : List Arg) → ((a b : List Value) → HasType type (f a b)) → HasType type (of_two_bags f arguments)
two_bags_typed type f (Many a ∷ Many b ∷ []) has = has a.values b.values
two_bags_typed type f _ has = tt

within_typed : (number : ℤ) → HasType integer (within_64_bits number)
within_typed number = if_typed (is_within_64_bits number) integer (arguments_of.integer number) (Err Overflow) refl tt

from_left_typed : (f : ℤ → ℤ → ℤ) (first : ℤ) (numbers : List ℤ) → HasType integer (from_left f first numbers)
from_left_typed f first numbers =
    if_typed (list_all is_within_64_bits (partial_results f first numbers)) integer _ (Err Overflow) refl tt

quotient_typed : (a b : ℤ) → HasType integer (quotient a b)
quotient_typed a b = if_typed (is_zero b) integer (Err DivideByZero) (within_64_bits (int_div a b)) tt (within_typed (int_div a b))

remainder_typed : (a b : ℤ) → HasType integer (remainder a b)
remainder_typed a b = if_typed (is_zero b) integer (Err DivideByZero) (arguments_of.integer (int_rem a b)) tt refl

date_typed : (number : ℤ) (day : ℕ) → HasType date (date_in_month number day)
date_typed (pos number) day = if_typed (nat_le 12 number && nat_lt number 120000) date _ (Err DateRange) refl tt
date_typed (negsuc number) day = tt

-- the only value of a bag has the bag's type
only_typed : (contents : List Value) (type : ArgType) → ((value : Value) → contents ≡ value ∷ [] → types.One (datatype_of value) ≡ type) → HasType type (only_value contents)
only_typed [] type has = tt
only_typed (value ∷ []) type has = has value refl
only_typed (value ∷ next ∷ rest) type has = tt

one_and_only_typed : (type : ArgType) (arguments : List Arg) → map type_of_arg arguments ≡ type ∷ [] → All IsHeld arguments
    → (element : ArgType) → ((t : _) → types.Many t ≡ type → types.One t ≡ element) → HasType element (of_bag only_value arguments)
one_and_only_typed type [] is held element by = tt
one_and_only_typed type (One v ∷ rest) is held element by = tt
one_and_only_typed type (Fun v ∷ rest) is held element by = tt
one_and_only_typed type (Many bag ∷ []) is held element by =
    only_typed bag.values element (λ value only. ap types.One (first_type value only) ∙ by bag.datatype (cc)) where
      first_type : (value : Value) → bag.values ≡ value ∷ [] → datatype_of value ≡ bag.datatype
      first_type value only =
          All-head (λ v. datatype_of v ≡ bag.datatype) value []
          (subst (λ (vs : List Value). All (λ v. datatype_of v ≡ bag.datatype) vs) only (All-head IsHeld (Many bag) [] held))
one_and_only_typed type (Many bag ∷ next ∷ rest) is held element by = tt

-- the type of the result of a function that takes no function
abbrev pub outcome_of : Function → ArgType
outcome_of (functions.Equal e) = boolean
outcome_of (functions.Compare k o) = boolean
outcome_of functions.Add = integer
outcome_of functions.Subtract = integer
outcome_of functions.Multiply = integer
outcome_of functions.Divide = integer
outcome_of functions.Mod = integer
outcome_of functions.Abs = integer
outcome_of functions.Or = boolean
outcome_of functions.And = boolean
outcome_of functions.Not = boolean
outcome_of (functions.OneAndOnly e) = value_of e
outcome_of (functions.BagSize e) = integer
outcome_of (functions.IsIn e) = boolean
outcome_of (functions.Bag e) = bag_of e
outcome_of (functions.Intersection e) = bag_of e
outcome_of (functions.Union e) = bag_of e
outcome_of (functions.AtLeastOneMemberOf e) = boolean
outcome_of (functions.Subset e) = boolean
outcome_of (functions.SetEquals e) = boolean
outcome_of functions.Concatenate = text
outcome_of functions.StartsWith = boolean
outcome_of functions.EndsWith = boolean
outcome_of functions.Contains = boolean
outcome_of functions.DateAdd = date
outcome_of functions.DateSubtract = date
outcome_of functions.AnyOf = boolean
outcome_of functions.AllOf = boolean

exactly_gives : (wanted : List ArgType) (outcome : ArgType) (given : List ArgType) → IsSome (exactly wanted outcome given) → exactly wanted outcome given ≡ Some outcome
exactly_gives wanted outcome given some = at (pointwise same_type given wanted) some where
  at : (b : Bool) → IsSome (if b then Some outcome else None) → (if b then Some outcome else None) ≡ Some outcome
  at true some = refl
  at false some = absurd (cc)

each_gives : (wanted outcome : ArgType) (given : List ArgType) → IsSome (each wanted outcome given) → each wanted outcome given ≡ Some outcome
each_gives wanted outcome given some = at (list_all (λ t. same_type t wanted) given) some where
  at : (b : Bool) → IsSome (if b then Some outcome else None) → (if b then Some outcome else None) ≡ Some outcome
  at true some = refl
  at false some = absurd (cc)

two_or_more_gives : (wanted outcome : ArgType) (given : List ArgType) → IsSome (two_or_more wanted outcome given) → two_or_more wanted outcome given ≡ Some outcome
two_or_more_gives wanted outcome given some = at (nat_le 2 (length given)) some where
  at : (b : Bool) → IsSome (if b then each wanted outcome given else None) → (if b then each wanted outcome given else None) ≡ Some outcome
  at true some = each_gives wanted outcome given some
  at false some = absurd (cc)

-- a function gives that type or none
pub gives : (function : Function) (given : List ArgType) → IsSome (first_order_type function given) → first_order_type function given ≡ Some (outcome_of function)
unfolding first_order_type
gives (functions.Equal e) given some = exactly_gives (value_of e ∷ value_of e ∷ []) boolean given some
gives (functions.Compare k o) given some = exactly_gives (types.One (ordered_type o) ∷ types.One (ordered_type o) ∷ []) boolean given some
gives functions.Add given some = two_or_more_gives integer integer given some
gives functions.Subtract given some = exactly_gives (integer ∷ integer ∷ []) integer given some
gives functions.Multiply given some = two_or_more_gives integer integer given some
gives functions.Divide given some = exactly_gives (integer ∷ integer ∷ []) integer given some
gives functions.Mod given some = exactly_gives (integer ∷ integer ∷ []) integer given some
gives functions.Abs given some = exactly_gives (integer ∷ []) integer given some
gives functions.Or given some = each_gives boolean boolean given some
gives functions.And given some = each_gives boolean boolean given some
gives functions.Not given some = exactly_gives (boolean ∷ []) boolean given some
gives (functions.OneAndOnly e) given some = exactly_gives (bag_of e ∷ []) (value_of e) given some
gives (functions.BagSize e) given some = exactly_gives (bag_of e ∷ []) integer given some
gives (functions.IsIn e) given some = exactly_gives (value_of e ∷ bag_of e ∷ []) boolean given some
gives (functions.Bag e) given some = each_gives (value_of e) (bag_of e) given some
gives (functions.Intersection e) given some = exactly_gives (bag_of e ∷ bag_of e ∷ []) (bag_of e) given some
gives (functions.Union e) given some = two_or_more_gives (bag_of e) (bag_of e) given some
gives (functions.AtLeastOneMemberOf e) given some = exactly_gives (bag_of e ∷ bag_of e ∷ []) boolean given some
gives (functions.Subset e) given some = exactly_gives (bag_of e ∷ bag_of e ∷ []) boolean given some
gives (functions.SetEquals e) given some = exactly_gives (bag_of e ∷ bag_of e ∷ []) boolean given some
gives functions.Concatenate given some = two_or_more_gives text text given some
gives functions.StartsWith given some = exactly_gives (text ∷ text ∷ []) boolean given some
gives functions.EndsWith given some = exactly_gives (text ∷ text ∷ []) boolean given some
gives functions.Contains given some = exactly_gives (text ∷ text ∷ []) boolean given some
gives functions.DateAdd given some = exactly_gives (date ∷ duration ∷ []) date given some
gives functions.DateSubtract given some = exactly_gives (date ∷ duration ∷ []) date given some
gives functions.AnyOf given some = absurd (cc)
gives functions.AllOf given some = absurd (cc)

-- what a function comes to has that type
pub typed : (function : Function) (arguments : List Arg) → Takes function arguments → (is_one_and_only function ≡ true → All IsHeld arguments)
    → HasType (outcome_of function) (first_order function arguments)
unfolding first_order first_order_type
typed (functions.Equal e) arguments taken held = two_values_typed boolean (λ a b. truth (same_value a b)) arguments (λ a b. refl)
typed (functions.Compare k o) arguments taken held = two_values_typed boolean (λ a b. truth (stands k (value_order a b))) arguments (λ a b. refl)
typed functions.Add arguments taken held = from_left_typed ◌+ℤ◌ (pos 0) (integers_of arguments)
typed functions.Subtract arguments taken held = two_values_typed integer (of_integers (λ a b. within_64_bits (a -ℤ b))) arguments (integers_typed integer (λ a b. within_64_bits (a -ℤ b)) (λ a b. within_typed (a -ℤ b)))
typed functions.Multiply arguments taken held = from_left_typed ◌*ℤ◌ (pos 1) (integers_of arguments)
typed functions.Divide arguments taken held = two_values_typed integer (of_integers quotient) arguments (integers_typed integer quotient quotient_typed)
typed functions.Mod arguments taken held = two_values_typed integer (of_integers remainder) arguments (integers_typed integer remainder remainder_typed)
typed functions.Abs arguments taken held = integer_typed integer (λ n. within_64_bits (pos (unsigned_abs n))) arguments (λ n. within_typed (pos (unsigned_abs n)))
typed functions.Or arguments taken held = refl
typed functions.And arguments taken held = refl
typed functions.Not arguments taken held = boolean_typed boolean (λ b. truth (not b)) arguments (λ b. refl)
typed (functions.OneAndOnly e) arguments taken held = one_and_only_typed (bag_of e) arguments (exactly_types (bag_of e ∷ []) (value_of e) (map type_of_arg arguments) refl taken) (held refl) (value_of e) (λ t is. cc)
typed (functions.BagSize e) arguments taken held = bag_typed integer (λ contents. within_64_bits (pos (length contents))) arguments (λ contents. within_typed (pos (length contents)))
typed (functions.IsIn e) arguments taken held = value_and_bag_typed boolean (λ a b. truth (is_among a b)) arguments (λ a b. refl)
typed (functions.Bag e) arguments taken held = refl
typed (functions.Intersection e) arguments taken held = two_bags_typed (bag_of e) _ arguments (λ a b. refl)
typed (functions.Union e) arguments taken held = refl
typed (functions.AtLeastOneMemberOf e) arguments taken held = two_bags_typed boolean (λ a b. truth (have_common a b)) arguments (λ a b. refl)
typed (functions.Subset e) arguments taken held = two_bags_typed boolean (λ a b. truth (is_subset a b)) arguments (λ a b. refl)
typed (functions.SetEquals e) arguments taken held = two_bags_typed boolean (λ a b. truth (are_equal_sets a b)) arguments (λ a b. refl)
typed functions.Concatenate arguments taken held = refl
typed functions.StartsWith arguments taken held = two_values_typed boolean (of_texts (λ a b. truth (begins_with a b))) arguments (texts_typed boolean (λ a b. truth (begins_with a b)) (λ a b. refl))
typed functions.EndsWith arguments taken held = two_values_typed boolean (of_texts (λ a b. truth (ends_with a b))) arguments (texts_typed boolean (λ a b. truth (ends_with a b)) (λ a b. refl))
typed functions.Contains arguments taken held = two_values_typed boolean (of_texts (λ a b. truth (has_part a b))) arguments (texts_typed boolean (λ a b. truth (has_part a b)) (λ a b. refl))
typed functions.DateAdd arguments taken held = two_values_typed date (of_date_and_months months_later) arguments (dates_typed date months_later (λ d m. date_typed (pos (month_number d) +ℤ m) d.day))
typed functions.DateSubtract arguments taken held = two_values_typed date (of_date_and_months (λ d m. months_later d (neg_ℤ m))) arguments (dates_typed date (λ d m. months_later d (neg_ℤ m)) (λ d m. date_typed (pos (month_number d) +ℤ neg_ℤ m) d.day))
typed functions.AnyOf arguments taken held = tt
typed functions.AllOf arguments taken held = tt

-- an answer that is what the function comes to has the function's result type
answer_typed : (type : ArgType) (ordering : Bool) (defined answer : Result Arg Fault) → HasType type defined → Applies ordering defined answer → HasType type answer
answer_typed type ordering defined (Ok outcome) has applies = subst (λ (r : Result Arg Fault). HasType type r) applies has
answer_typed type ordering defined (Err fault) has applies = tt

has_type_gives : (type : ArgType) (answer : Result Arg Fault) → HasType type answer → IfOk answer (λ outcome. Some (type_of_arg outcome) ≡ Some type)
has_type_gives type (Ok outcome) has = ap Some has
has_type_gives type (Err fault) has = _

pub first_order_answer : (function : Function) (arguments : List Arg) (answer : Result Arg Fault) → Takes function arguments
    → (is_one_and_only function ≡ true → All IsHeld arguments) → Applies (sorts function arguments) (first_order function arguments) answer
    → IfOk answer (λ outcome. Some (type_of_arg outcome) ≡ first_order_type function (map type_of_arg arguments))
first_order_answer function arguments answer taken held applies =
    rw (gives function (map type_of_arg arguments) taken)
    (has_type_gives (outcome_of function) answer (answer_typed (outcome_of function) (sorts function arguments) (first_order function arguments) answer (typed function arguments taken held) applies))

-- functions other than any-of and all-of
pub others_taken : (function : Function) (arguments : List Arg) → (function ≡ functions.AnyOf → ⊥) → (function ≡ functions.AllOf → ⊥)
    → IsSome (result_type_of function (map type_of_arg arguments)) → Takes function arguments
unfolding result_type_of
others_taken functions.AnyOf arguments any all some = absurd (any refl)
others_taken functions.AllOf arguments any all some = absurd (all refl)
others_taken _ arguments any all some = some

pub others_type : (function : Function) → (function ≡ functions.AnyOf → ⊥) → (function ≡ functions.AllOf → ⊥) → result_type_of function ≡ first_order_type function
unfolding result_type_of
others_type functions.AnyOf any all = absurd (any refl)
others_type functions.AllOf any all = absurd (all refl)
others_type _ any all = refl

pub others_applied : (function : Function) → (function ≡ functions.AnyOf → ⊥) → (function ≡ functions.AllOf → ⊥) → applied function ≡ first_order function
unfolding applied
others_applied functions.AnyOf any all = absurd (any refl)
others_applied functions.AllOf any all = absurd (all refl)
others_applied _ any all = refl

-- any-of and all-of give a boolean
pub higher_gives : (given : List ArgType) → IsSome (higher_order_type given) → Some boolean ≡ higher_order_type given
unfolding higher_order_type
higher_gives (types.Fun function ∷ given) some = at _ some where
  at : (b : Bool) → IsSome (if b then Some boolean else None) → Some boolean ≡ (if b then Some boolean else None)
  at true some = refl
  at false some = absurd (cc)
higher_gives _ some = absurd (cc)
