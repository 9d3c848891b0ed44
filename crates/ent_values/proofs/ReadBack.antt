-- What is written reads back.
use Rattle.std.proofs.Common.{◌≡◌, ◌<◌, ◌+◌, ◌/◌, ◌%◌, ◌++◌, ℕ, ℤ, List, Bool, true, false, Option, Some, None, ap, sym, refl, arith, length, ◌∙◌}
use Rattle.std.proofs.lemmas.Bool.{ltb-true, lt-ltb, true≢false}
use Rattle.std.proofs.lemmas.Bool.Decides.{nat_tests}
use Rattle.std.proofs.lemmas.Fmt.{parse-signed_decimal}
use Rattle.std.proofs.lemmas.Str.{digit_value_digit}
use Rattle.std.specs.Char.{digit_value, is_ascii_digit}
use Rattle.std.specs.Fmt.{signed_decimal}
use Rattle.std.specs.Int.{w64}
use Rattle.std.specs.Prelude.{FitsSigned, IfOk, Result, Ok, Err, ⊤}
use Rattle.std.specs.Result.{result_ok}
use Rattle.std.specs.Str.Parse.{IsNumeral, ParsesSigned, signed_digits_value, without_leading_sign}
use Rattle.ent_values.proofs.Dates.{counted_is}
use Rattle.ent_values.proofs.Numerals.{both, digits_model, fits, fits_back, is_integer}
use Rattle.ent_values.proofs.Periods.{duration_back}
use Rattle.ent_values.proofs.Texts.{date_small, time_small}
use Rattle.ent_values.proofs.Times.{timed_is}
use Rattle.ent_values.specs.Calendar.{Day, TimeOfDay, is_date}
use Rattle.ent_values.specs.ReadBack.{HasFewYears, IsReadBack, IsReadable, IsReal, IsRealDay, IsRealMoment, IsRealTime, TextsReadBack}
use Rattle.ent_values.specs.Reading.{boolean_of, count_of, date_of, date_time_of, integer_of, is_within_64_bits, time_of, value_of}
use Rattle.ent_values.specs.Writing.{date_text, date_time_text, text_of, time_text, two_digits}
use Rattle.ent_values.specs.declared.date_time.DateTime.{DateTime}
use Rattle.ent_values.specs.declared.value.Value.{Value}
use Rattle.ent_values.specs.declared.value.Value.TheVariants as values

-- integers

abbrev as_result : Option ℤ → Result ℤ ⊤
as_result None = Err tt
as_result (Some n) = Ok n

result_ok-as_result : (o : Option ℤ) → result_ok (as_result o) ≡ o
result_ok-as_result None = refl
result_ok-as_result (Some n) = refl

-- what the words of the forms read is what `parse` reads
parses : (text : List ℕ) → ParsesSigned w64 10 text (as_result (integer_of text))
unfolding integer_of
parses text = go (is_integer text) refl
  where
    is_true : IsNumeral 10 (without_leading_sign text) × FitsSigned w64 (signed_digits_value 10 text) → is_integer text ≡ true
    is_true h =
        let digits = without_leading_sign text in
        rw (lt-ltb 0 (length digits) h.0.0, digits_model.from digits h.0.1, fits_back (signed_digits_value 10 text) h.1) refl

    go : (b : Bool) → is_integer text ≡ b → ParsesSigned w64 10 text (as_result (integer_of text))
    go true t =
        let outer = both _ _ t in
        let inner = both _ _ outer.0 in
        rw t (((ltb-true _ _ inner.0, digits_model.to (without_leading_sign text) inner.1), fits _ outer.1), refl)
    go false t = rw t (λ h. true≢false (sym (is_true h) ∙ t))

integer_back : (n : ℤ) → is_within_64_bits n ≡ true → integer_of (signed_decimal n) ≡ Some n
integer_back n within =
    let text = signed_decimal n in
    let fit = fits n within in
    sym (result_ok-as_result (integer_of text)) ∙ ap result_ok (parse-signed_decimal w64 n text (as_result (integer_of text)) fit fit.sfits refl (parses text))

-- digits

digit_ok : (k : ℕ) → k < 10 → is_ascii_digit (48 + k) ≡ true
digit_ok k h = grind (arith, nat_tests)

digit_is : (k : ℕ) → k < 10 → digit_value (48 + k) ≡ k
digit_is k h = omega (arith, digit_value_digit (48 + k) (omega arith, omega arith))

count_two : (n : ℕ) → n < 100 → count_of (two_digits n) ≡ Some n
unfolding count_of
count_two n small =
    rw (digit_ok (n / 10) (omega arith), digit_ok (n % 10) (omega arith))
    (ap Some (rw (digit_is (n / 10) (omega arith), digit_is (n % 10) (omega arith)) (omega arith)))

count_four : (n : ℕ) → n < 10000 → count_of (two_digits (n / 100) ++ two_digits (n % 100)) ≡ Some n
unfolding count_of
count_four n small =
    rw (digit_ok (n / 100 / 10) (omega arith), digit_ok (n / 100 % 10) (omega arith), digit_ok (n % 100 / 10) (omega arith), digit_ok (n % 100 % 10) (omega arith))
    (ap Some (rw (digit_is (n / 100 / 10) (omega arith), digit_is (n / 100 % 10) (omega arith), digit_is (n % 100 / 10) (omega arith), digit_is (n % 100 % 10) (omega arith)) (omega arith)))

date_back : (date : Day) → is_date date.year date.month date.day ≡ true → date_of (date_text date) ≡ Some date
unfolding date_text
date_back date real =
    let small = date_small date.year date.month date.day real in
    sym (counted_is (date_text date) (Some date.year) (Some date.month) (Some date.day) (omega arith) refl refl refl
    (sym (count_four date.year small.0)) (sym (count_two date.month small.1)) (sym (count_two date.day small.2)))
    ∙ rw real refl

time_back : (time : TimeOfDay) → IsRealTime time → time_of (time_text time) ≡ Some time
unfolding time_text
time_back time real =
    let small = time_small time.hour time.minute time.second real in
    sym (timed_is (time_text time) (Some time.hour) (Some time.minute) (Some time.second) (omega arith) refl refl refl
    (sym (count_two time.hour small.0)) (sym (count_two time.minute small.1)) (sym (count_two time.second small.2)))
    ∙ rw real refl

date_time_back : (moment : DateTime) → IsRealMoment moment → date_time_of (date_time_text moment) ≡ Some moment
unfolding date_time_of date_time_text date_text
date_time_back moment real = rw (date_text_back moment.date real.0, time_back moment.time real.1) refl
  where
    date_text_back : (date : Day) → IsRealDay date → date_of (date_text date) ≡ Some date
    date_text_back = date_back

pub read_back : TextsReadBack
unfolding value_of text_of boolean_of
read_back (values.Text text) h = refl
read_back (values.Boolean true) h = refl
read_back (values.Boolean false) h = refl
read_back (values.Integer n) h = rw (integer_back n h) refl
read_back (values.Date date) h = rw (date_back date h) refl
read_back (values.AnyUri uri) h = refl
read_back (values.YearMonth months) h = rw (duration_back months h) refl
read_back (values.Time time) h = rw (time_back time h) refl
read_back (values.DateTime moment) h = rw (date_time_back moment h) refl

-- such a value is readable, if a duration has few years
pub readable : (value : Value) → IsReal value → HasFewYears value → IsReadable value
readable (values.Text text) real few = tt
readable (values.Boolean boolean) real few = tt
readable (values.Integer integer) real few = real
readable (values.Date date) real few = real
readable (values.AnyUri uri) real few = tt
readable (values.YearMonth months) real few = few
readable (values.Time time) real few = real
readable (values.DateTime moment) real few = real

-- its text reads back
pub reads_as : {E : Type 0} (value : Value) (r : Result (List ℕ) E) → IsReal value → IfOk r (λ t. t ≡ text_of value) → IfOk r (λ t. IsReadBack value t)
reads_as value (Ok t) real is = λ few. rw is (read_back value (readable value real few))
reads_as value (Err e) real is = is
