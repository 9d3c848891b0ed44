-- Functions of values that read back come to such values.
use Rattle.std.proofs.Common.{◌≡◌, ℕ, ◌+◌, ◌/◌, ◌%◌, ◌<◌, ◌≤◌, ◌^◌, ℤ, pos, negsuc, Bool, true, false, cond}
use Rattle.std.proofs.Common.{List, [], ◌∷◌, ◌++◌, refl, arith, IsUtf8}
use Rattle.std.specs.Prelude.{Result, Ok, Err, ◌+ℤ◌, ◌-ℤ◌, ◌*ℤ◌, ◌&&◌, ◌||◌, ◌==◌, neg_ℤ, int_div, int_rem}
use Rattle.std.specs.Prelude.{unsigned_abs, nat_le, nat_lt, length, not, if◌then◌else◌}
use Rattle.std.specs.List.{AllByRecursion, cons_option, filter, list_all}
use Rattle.std.proofs.lemmas.Bool.{lt-ltb, ltb-true}
use Rattle.std.proofs.lemmas.Int.{rem_below}
use Rattle.std.proofs.lemmas.Str.{IsUtf8-append, IsUtf8-nil}
use Rattle.ent_values.specs.Order.{value_order}
use Rattle.ent_values.specs.Calendar.{Day, days_of_month, is_leap_year}
use Rattle.ent_values.specs.Writing.{date_text, text_of, two_digits}
use Rattle.ent_values.specs.Reading.{is_within_64_bits}
use Rattle.ent_values.specs.Same.{same_value}
use Rattle.ent_values.specs.declared.value.Value.{Value}
use Rattle.ent_values.specs.declared.value.Value.TheVariants as values
use Rattle.ent_functions.specs.Applied.{all_of, any_of, applied, first_order}
use Rattle.ent_functions.specs.Arguments.{integers_of, is_true, of_bag, of_boolean, of_date_and_months, of_integer}
use Rattle.ent_functions.specs.Arguments.{of_integers, of_texts, of_two_bags, of_two_values, of_value_and_bag}
use Rattle.ent_functions.specs.Arguments.{text_in, texts_of, truth, values_in, values_of}
use Rattle.ent_functions.specs.Arguments as arguments_of
use Rattle.ent_functions.specs.Dates.{date_in_month, day_in_month, month_number, months_later}
use Rattle.ent_functions.specs.Integers.{from_left, is_zero, partial_results, quotient, remainder, whole_result}
use Rattle.ent_functions.specs.Integers.{within_64_bits}
use Rattle.ent_functions.specs.Orders.{stands}
use Rattle.ent_functions.specs.Sets.{are_equal_sets, each_once, have_common, is_among, is_subset, only_value}
use Rattle.ent_functions.specs.Texts.{begins_with, ends_with, has_part, joined}
use Rattle.ent_functions.specs.declared.arg.Arg.{Arg}
use Rattle.ent_functions.specs.declared.arg.Arg.TheVariants.{One, Many, Fun}
use Rattle.ent_functions.specs.declared.arg.Fault.{Fault}
use Rattle.ent_functions.specs.declared.arg.Fault.TheVariants.{DivideByZero, Overflow, DateRange}
use Rattle.ent_functions.specs.declared.function.Function.{Function}
use Rattle.ent_functions.specs.declared.function.Function.TheVariants as functions
use Rattle.ent_polform.specs.Written.{value_written}
use Rattle.law_restart.proofs.Utf8Data.{IsUtf8Data}
use Rattle.law_restart.proofs.Utf8Written.{byte_utf8, more_utf8}

-- an integer is within signed 64 bits
abbrev pub IsSmall : Value → Type 0
IsSmall (values.Integer n) = is_within_64_bits n ≡ true
IsSmall (values.Text text) = Unit {0}
IsSmall (values.Boolean b) = Unit {0}
IsSmall (values.Date day) = Unit {0}
IsSmall (values.AnyUri uri) = Unit {0}
IsSmall (values.YearMonth months) = Unit {0}
IsSmall (values.Time time) = Unit {0}
IsSmall (values.DateTime moment) = Unit {0}

-- a value whose text reads back: it is UTF-8, and an integer is within signed 64 bits
pub record IsGood (v : Value) : Type 0 where
  pub small : IsSmall v
  pub utf8 : IsUtf8Data (value_written v)

boolean_is_good : (b : Bool) → IsGood (values.Boolean b)
unfolding value_written
boolean_is_good b = record { small = tt; utf8 = tt }

integer_is_good : (n : ℤ) → is_within_64_bits n ≡ true → IsGood (values.Integer n)
unfolding value_written
integer_is_good n h = record { small = h; utf8 = tt }

pub text_is_good : (text : List ℕ) → IsUtf8 text → IsGood (values.Text text)
unfolding value_written text_of
text_is_good text u = record { small = tt; utf8 = u }

text_utf8 : (text : List ℕ) → IsGood (values.Text text) → IsUtf8 text
unfolding value_written text_of
text_utf8 text h = h.utf8

two_utf8 : (n : ℕ) → n < 100 → IsUtf8 (two_digits n)
two_utf8 n small = more_utf8 (48 + n / 10) ((48 + n % 10) ∷ []) (omega arith) (byte_utf8 (48 + n % 10) (omega arith))

and_then_utf8 : (n b : ℕ) (rest : List ℕ) → n < 100 → b < 128 → IsUtf8 rest → IsUtf8 (two_digits n ++ b ∷ rest)
and_then_utf8 n b rest small ascii u =
    IsUtf8-append (two_digits n) (b ∷ rest) (two_utf8 n small) (more_utf8 b rest ascii u)

date_utf8 : (day : Day) → day.year < 10000 → day.month < 100 → day.day < 100 → IsUtf8 (date_text day)
unfolding date_text
date_utf8 day y m d =
    IsUtf8-append (two_digits (day.year / 100)) _ (two_utf8 (day.year / 100) (omega arith))
    (and_then_utf8 (day.year % 100) 45 _ (omega arith) (omega arith)
    (and_then_utf8 day.month 45 (two_digits day.day) m (omega arith) (two_utf8 day.day d)))

date_is_good : (day : Day) → day.year < 10000 → day.month < 100 → day.day < 100 → IsGood (values.Date day)
unfolding value_written text_of
date_is_good day y m d = record { small = tt; utf8 = date_utf8 day y m d }

abbrev pub AreGood : List Value → Type 0
AreGood = AllByRecursion IsGood

-- the same of an argument's values
abbrev pub IsGoodArg : Arg → Type 0
IsGoodArg (One value) = IsGood value
IsGoodArg (Many bag) = AreGood bag.values
IsGoodArg (Fun function) = Unit {0}

-- and of a result's, if there is one
abbrev pub IsGoodResult : Result Arg Fault → Type 0
IsGoodResult (Ok outcome) = IsGoodArg outcome
IsGoodResult (Err fault) = Unit {0}

-- ---- lists

pub good_both : (xs ys : List Value) → AreGood xs → AreGood ys → AreGood (xs ++ ys)
good_both [] ys h g = g
good_both (x ∷ xs) ys h g = (h.0, good_both xs ys h.1 g)

good_filter : (p : Value → Bool) (xs : List Value) → AreGood xs → AreGood (filter p xs)
good_filter p [] h = tt
good_filter p (x ∷ xs) h = by (p x) (good_filter p xs h.1)
  where
    by : (b : Bool) → AreGood (filter p xs) → AreGood (cond b (x ∷ filter p xs) (filter p xs))
    by true more = (h.0, more)
    by false more = more

good_once : (xs : List Value) → AreGood xs → AreGood (each_once xs)
good_once [] h = tt
good_once (x ∷ xs) h = (h.0, good_filter (λ y. not (same_value y x)) (each_once xs) (good_once xs h.1))

good_in : (a : Arg) → IsGoodArg a → AreGood (values_in a)
good_in (One value) h = (h, tt)
good_in (Many bag) h = h
good_in (Fun function) h = tt

good_values : (as_ : List Arg) → AllByRecursion IsGoodArg as_ → AreGood (values_of as_)
good_values [] h = tt
good_values (a ∷ as_) h = good_both (values_in a) (values_of as_) (good_in a h.0) (good_values as_ h.1)

good_only : (xs : List Value) → AreGood xs → IsGoodResult (only_value xs)
good_only [] h = tt
good_only (x ∷ []) h = h.0
good_only (x ∷ y ∷ xs) h = tt

-- ---- integers

good_within : (n : ℤ) → IsGoodResult (within_64_bits n)
good_within n = by (is_within_64_bits n) refl
  where
    by : (b : Bool) → is_within_64_bits n ≡ b → IsGoodResult (if b then arguments_of.integer n else Err Overflow)
    by true e = integer_is_good n e
    by false e = tt

both_true : (a b : Bool) → (a && b) ≡ true → (a ≡ true) × (b ≡ true)
both_true true b h = (refl, h)
both_true false b h = absurd cc

whole_within : (f : ℤ → ℤ → ℤ) (first : ℤ) (ns : List ℤ)
    → list_all is_within_64_bits (partial_results f first ns) ≡ true
    → is_within_64_bits (whole_result f first ns) ≡ true
whole_within f first [] h = (both_true (is_within_64_bits first) true h).0
whole_within f first (n ∷ ns) h = whole_within f (f first n) ns
    (both_true (is_within_64_bits first) (list_all is_within_64_bits (partial_results f (f first n) ns)) h).1

good_from_left : (f : ℤ → ℤ → ℤ) (first : ℤ) (ns : List ℤ) → IsGoodResult (from_left f first ns)
good_from_left f first ns = by (list_all is_within_64_bits (partial_results f first ns)) refl
  where
    by : (b : Bool) → list_all is_within_64_bits (partial_results f first ns) ≡ b
        → IsGoodResult (if b then arguments_of.integer (whole_result f first ns) else Err Overflow)
    by true e = integer_is_good (whole_result f first ns) (whole_within f first ns e)
    by false e = tt

abs_good : (n : ℤ) → is_within_64_bits n ≡ true → unsigned_abs n ≤ 2 ^ 63
abs_good (pos n) h = let low = ltb-true n (2 ^ 63) h in omega arith
abs_good (negsuc n) h = let low = ltb-true n (2 ^ 63) h in omega arith

below_good : (n : ℤ) → unsigned_abs n < 2 ^ 63 → is_within_64_bits n ≡ true
below_good (pos n) h = lt-ltb n (2 ^ 63) h
below_good (negsuc n) h = lt-ltb n (2 ^ 63) (omega arith)

good_remainder : (a b : ℤ) → is_within_64_bits b ≡ true → IsGoodResult (remainder a b)
good_remainder a b h = by (is_zero b) refl
  where
    some : (n : ℕ) → (n == 0) ≡ false → 0 < n
    some n e = grind arith

    by : (z : Bool) → is_zero b ≡ z
        → IsGoodResult (if z then Err DivideByZero else arguments_of.integer (int_rem a b))
    by true e = tt
    by false e =
        let less = rem_below a b (some (unsigned_abs b) e) in
        let most = abs_good b h in
        integer_is_good (int_rem a b) (below_good (int_rem a b) (omega arith))

-- ---- texts

text_in_utf8 : (v : Value) → IsGood v → (rest : List (List ℕ)) → AllByRecursion IsUtf8 rest
    → AllByRecursion IsUtf8 (cons_option (text_in (One v)) rest)
text_in_utf8 (values.Text text) h rest more = (text_utf8 text h, more)
text_in_utf8 (values.Boolean b) h rest more = more
text_in_utf8 (values.Integer n) h rest more = more
text_in_utf8 (values.Date day) h rest more = more
text_in_utf8 (values.AnyUri uri) h rest more = more
text_in_utf8 (values.YearMonth months) h rest more = more
text_in_utf8 (values.Time time) h rest more = more
text_in_utf8 (values.DateTime moment) h rest more = more

texts_utf8 : (as_ : List Arg) → AllByRecursion IsGoodArg as_ → AllByRecursion IsUtf8 (texts_of as_)
texts_utf8 [] h = tt
texts_utf8 (One v ∷ as_) h = text_in_utf8 v h.0 (texts_of as_) (texts_utf8 as_ h.1)
texts_utf8 (Many bag ∷ as_) h = texts_utf8 as_ h.1
texts_utf8 (Fun function ∷ as_) h = texts_utf8 as_ h.1

joined_utf8 : (texts : List (List ℕ)) → AllByRecursion IsUtf8 texts → IsUtf8 (joined texts)
joined_utf8 [] h = IsUtf8-nil
joined_utf8 (text ∷ texts) h = IsUtf8-append text (joined texts) h.0 (joined_utf8 texts h.1)

-- ---- by the arguments

of_two_good : (f : Value → Value → Result Arg Fault) (as_ : List Arg) → AllByRecursion IsGoodArg as_
    → ((a b : Value) → IsGood a → IsGood b → IsGoodResult (f a b)) → IsGoodResult (of_two_values f as_)
of_two_good f (One a ∷ One b ∷ []) h good = good a b h.0 h.1.0
of_two_good f _ h good = tt

of_integers_good : (f : ℤ → ℤ → Result Arg Fault)
    → ((a b : ℤ) → is_within_64_bits a ≡ true → is_within_64_bits b ≡ true → IsGoodResult (f a b)) → (a b : Value)
    → IsGood a → IsGood b → IsGoodResult (of_integers f a b)
of_integers_good f good (values.Integer a) (values.Integer b) h g = good a b h.small g.small
of_integers_good f good _ _ h g = tt

of_texts_good : (f : List ℕ → List ℕ → Result Arg Fault) → ((a b : List ℕ) → IsGoodResult (f a b)) → (a b : Value)
    → IsGood a → IsGood b → IsGoodResult (of_texts f a b)
of_texts_good f good (values.Text a) (values.Text b) h g = good a b
of_texts_good f good _ _ h g = tt

either_good : (b : Bool) (x y : Result Arg Fault) → IsGoodResult x → IsGoodResult y
    → IsGoodResult (if b then x else y)
either_good true x y h g = h
either_good false x y h g = g

days_le : (year month : ℕ) → days_of_month year month ≤ 31
days_le year month =
    by (month == 2) (is_leap_year year) ((month == 4) || (month == 6) || (month == 9) || (month == 11))
  where
    by : (a b c : Bool) → (if a then (if b then 29 else 28) else (if c then 30 else 31)) ≤ 31
    by true true c = omega arith
    by true false c = omega arith
    by false b true = omega arith
    by false b false = omega arith

month_good : (number day : ℕ) → number < 120000 → IsGood (values.Date (day_in_month number day))
month_good number day low =
    let days = days_le (number / 12) (number % 12 + 1) in
    date_is_good (day_in_month number day) (omega arith) (omega arith) (omega (arith, days))

date_good : (number : ℤ) (day : ℕ) → IsGoodResult (date_in_month number day)
date_good (pos number) day = by (nat_le 12 number && nat_lt number 120000) refl
  where
    by : (b : Bool) → (nat_le 12 number && nat_lt number 120000) ≡ b
        → IsGoodResult (if b then Ok (One (values.Date (day_in_month number day))) else Err DateRange)
    by true e =
        month_good number day (ltb-true number 120000 (both_true (nat_le 12 number) (nat_lt number 120000) e).1)
    by false e = tt
date_good (negsuc number) day = tt

good_quotient : (a b : ℤ) → IsGoodResult (quotient a b)
good_quotient a b =
    either_good (is_zero b) (Err DivideByZero) (within_64_bits (int_div a b)) tt (good_within (int_div a b))

of_dates_good : (f : Day → ℤ → Result Arg Fault) → ((d : Day) (m : ℤ) → IsGoodResult (f d m)) → (a b : Value)
    → IsGood a → IsGood b → IsGoodResult (of_date_and_months f a b)
of_dates_good f good (values.Date d) (values.YearMonth m) h g = good d m
of_dates_good f good _ _ h g = tt

of_boolean_good : (f : Bool → Result Arg Fault) (as_ : List Arg) → ((b : Bool) → IsGoodResult (f b))
    → IsGoodResult (of_boolean f as_)
of_boolean_good f (One (values.Boolean b) ∷ []) good = good b
of_boolean_good f _ good = tt

of_integer_good : (f : ℤ → Result Arg Fault) (as_ : List Arg) → ((n : ℤ) → IsGoodResult (f n))
    → IsGoodResult (of_integer f as_)
of_integer_good f (One (values.Integer n) ∷ []) good = good n
of_integer_good f _ good = tt

of_bag_good : (f : List Value → Result Arg Fault) (as_ : List Arg) → AllByRecursion IsGoodArg as_
    → ((vs : List Value) → AreGood vs → IsGoodResult (f vs)) → IsGoodResult (of_bag f as_)
of_bag_good f (Many bag ∷ []) h good = good bag.values h.0
of_bag_good f _ h good = tt

of_value_and_bag_good : (f : Value → List Value → Result Arg Fault) (as_ : List Arg)
    → ((v : Value) (vs : List Value) → IsGoodResult (f v vs)) → IsGoodResult (of_value_and_bag f as_)
of_value_and_bag_good f (One v ∷ Many bag ∷ []) good = good v bag.values
of_value_and_bag_good f _ good = tt

of_two_bags_good : (f : List Value → List Value → Result Arg Fault) (as_ : List Arg) → AllByRecursion IsGoodArg as_
    → ((vs ws : List Value) → AreGood vs → IsGoodResult (f vs ws)) → IsGoodResult (of_two_bags f as_)
of_two_bags_good f (Many a ∷ Many b ∷ []) h good = good a.values b.values h.0
of_two_bags_good f _ h good = tt

-- ---- the functions

first_good : (function : Function) (as_ : List Arg) → AllByRecursion IsGoodArg as_
    → IsGoodResult (first_order function as_)
unfolding first_order
first_good (functions.Equal e) as_ h =
    of_two_good (λ a b. truth (same_value a b)) as_ h (λ a b p q. boolean_is_good _)
first_good (functions.Compare c o) as_ h =
    of_two_good (λ a b. truth (stands c (value_order a b))) as_ h (λ a b p q. boolean_is_good _)
first_good functions.Add as_ h = good_from_left ◌+ℤ◌ (pos 0) (integers_of as_)
first_good functions.Subtract as_ h = of_two_good (of_integers (λ a b. within_64_bits (a -ℤ b))) as_ h
    (of_integers_good (λ a b. within_64_bits (a -ℤ b)) (λ a b p q. good_within (a -ℤ b)))
first_good functions.Multiply as_ h = good_from_left ◌*ℤ◌ (pos 1) (integers_of as_)
first_good functions.Divide as_ h =
    of_two_good (of_integers quotient) as_ h (of_integers_good quotient (λ a b p q. good_quotient a b))
first_good functions.Mod as_ h =
    of_two_good (of_integers remainder) as_ h (of_integers_good remainder (λ a b p q. good_remainder a b q))
first_good functions.Abs as_ h =
    of_integer_good (λ n. within_64_bits (pos (unsigned_abs n))) as_ (λ n. good_within (pos (unsigned_abs n)))
first_good functions.Or as_ h = boolean_is_good _
first_good functions.And as_ h = boolean_is_good _
first_good functions.Not as_ h = of_boolean_good (λ b. truth (not b)) as_ (λ b. boolean_is_good _)
first_good (functions.OneAndOnly e) as_ h = of_bag_good only_value as_ h good_only
first_good (functions.BagSize e) as_ h =
    of_bag_good (λ vs. within_64_bits (pos (length vs))) as_ h (λ vs p. good_within (pos (length vs)))
first_good (functions.IsIn e) as_ h =
    of_value_and_bag_good (λ v vs. truth (is_among v vs)) as_ (λ v vs. boolean_is_good _)
first_good (functions.Bag e) as_ h = good_values as_ h
first_good (functions.Intersection e) as_ h = of_two_bags_good _ as_ h
    (λ vs ws p. good_once (filter (λ v. is_among v ws) vs) (good_filter (λ v. is_among v ws) vs p))
first_good (functions.Union e) as_ h = good_once (values_of as_) (good_values as_ h)
first_good (functions.AtLeastOneMemberOf e) as_ h =
    of_two_bags_good (λ a b. truth (have_common a b)) as_ h (λ vs ws p. boolean_is_good _)
first_good (functions.Subset e) as_ h =
    of_two_bags_good (λ a b. truth (is_subset a b)) as_ h (λ vs ws p. boolean_is_good _)
first_good (functions.SetEquals e) as_ h =
    of_two_bags_good (λ a b. truth (are_equal_sets a b)) as_ h (λ vs ws p. boolean_is_good _)
first_good functions.Concatenate as_ h =
    text_is_good (joined (texts_of as_)) (joined_utf8 (texts_of as_) (texts_utf8 as_ h))
first_good functions.StartsWith as_ h = of_two_good (of_texts (λ a b. truth (begins_with a b))) as_ h
    (of_texts_good (λ a b. truth (begins_with a b)) (λ a b. boolean_is_good _))
first_good functions.EndsWith as_ h = of_two_good (of_texts (λ a b. truth (ends_with a b))) as_ h
    (of_texts_good (λ a b. truth (ends_with a b)) (λ a b. boolean_is_good _))
first_good functions.Contains as_ h = of_two_good (of_texts (λ a b. truth (has_part a b))) as_ h
    (of_texts_good (λ a b. truth (has_part a b)) (λ a b. boolean_is_good _))
first_good functions.DateAdd as_ h = of_two_good (of_date_and_months months_later) as_ h
    (of_dates_good months_later (λ d m. date_good (pos (month_number d) +ℤ m) d.day))
first_good functions.DateSubtract as_ h = of_two_good (of_date_and_months (λ d m. months_later d (neg_ℤ m))) as_ h
    (of_dates_good (λ d m. months_later d (neg_ℤ m)) (λ d m. date_good (pos (month_number d) +ℤ neg_ℤ m) d.day))
first_good functions.AnyOf as_ h = tt
first_good functions.AllOf as_ h = tt

any_good : (as_ : List Arg) → IsGoodResult (any_of as_)
unfolding any_of
any_good (Fun function ∷ as_) = boolean_is_good _
any_good _ = tt

all_good : (as_ : List Arg) → IsGoodResult (all_of as_)
unfolding all_of
all_good (Fun function ∷ as_) = boolean_is_good _
all_good _ = tt

pub applied_good : (function : Function) (as_ : List Arg) → AllByRecursion IsGoodArg as_
    → IsGoodResult (applied function as_)
unfolding applied
applied_good functions.AnyOf as_ h = any_good as_
applied_good functions.AllOf as_ h = all_good as_
applied_good function as_ h = first_good function as_ h
