-- What is written of values that were read of UTF-8 texts is UTF-8.
use Rattle.std.proofs.Common.{◌≡◌, ℕ, ◌/◌, ◌%◌, ◌<◌, ℤ, List, [], ◌∷◌, ◌++◌, ◌+◌, decimal, Bool, true, false, ◌==◌, Option, Some, None, codes, refl, arith, IsUtf8, take, drop, subst}
use Rattle.std.specs.Prelude.{if◌then◌else◌, int_lt, pos, unsigned_abs, option_map}
use Rattle.std.specs.Str.Parse.{digits_value}
use Rattle.std.proofs.lemmas.Str.{IsUtf8-append, IsUtf8-nil}
use Rattle.json.proofs.Printed.Utf8.{IsUtf8-are_ascii}
use Rattle.ent_values.specs.Calendar.{Day, TimeOfDay, is_time, time_of_day}
use Rattle.ent_values.specs.ReadBack.{IsRealDay, IsRealMoment, IsRealTime}
use Rattle.ent_values.specs.Reading.{boolean_of, date_of, date_time_of, duration_of, integer_of, is_within_64_bits, time_of, value_of}
use Rattle.ent_values.specs.Types.{uri_of}
use Rattle.ent_values.specs.Writing.{date_text, date_time_text, duration_text, part_text, period_text, sign_text, text_of, time_text, two_digits}
use Rattle.ent_values.specs.declared.datatype.DataType.{DataType}
use Rattle.ent_values.specs.declared.datatype.DataType.TheVariants as types
use Rattle.ent_values.specs.declared.date_time.DateTime.{DateTime}
use Rattle.ent_values.specs.declared.value.Value.{Value}
use Rattle.ent_values.specs.declared.value.Value.TheVariants as values
use Rattle.ent_values.proofs.Texts.{date_small, time_small}
use Rattle.ent_policy.specs.Reading.{boolean_as, integer_as, literal_as}
use Rattle.ent_policy.specs.declared.raw.RawLiteral.{RawLiteral}
use Rattle.ent_policy.specs.declared.raw.RawLiteral.TheVariants as literals
use Rattle.ent_polform.specs.Written.{value_written}
use Rattle.ent_polform.proofs.TypedValues.{date_real, moment_real}
use Rattle.law_restart.proofs.Utf8Data.{IfThere, IsUtf8Data}
use Rattle.law_restart.proofs.Utf8Written.{byte_utf8, decimal_utf8, more_utf8}

-- what is read where a test holds
if_holds : {A : Type 0} (P : A → Type 0) (b : Bool) (o : Option A) (x : A) → (b ≡ true → o ≡ Some x → P x) → (if b then o else None) ≡ Some x → P x
if_holds P true o x good h = good refl h
if_holds P false o x good h = absurd cc

-- a time that was read is one of the day
time_real : (text : List ℕ) (time : TimeOfDay) → time_of text ≡ Some time → IsRealTime time
unfolding time_of
time_real text time h =
    if_holds IsRealTime _ (time_of_day k m s) time (λ _ is. if_holds IsRealTime (is_time k m s) (Some one) time (λ real same. let is : one ≡ time = cc in subst IsRealTime is real) is) h
  where
    k : ℕ
    k = digits_value 10 (take 2 text)

    m : ℕ
    m = digits_value 10 (take 2 (drop 3 text))

    s : ℕ
    s = digits_value 10 (take 2 (drop 6 text))

    one : TimeOfDay
    one = record { hour = k; minute = m; second = s }

pub uri_utf8 : (datatype : DataType) → IsUtf8 (uri_of datatype)
unfolding uri_of
uri_utf8 types.Text = IsUtf8-are_ascii _ refl
uri_utf8 types.Boolean = IsUtf8-are_ascii _ refl
uri_utf8 types.Integer = IsUtf8-are_ascii _ refl
uri_utf8 types.Date = IsUtf8-are_ascii _ refl
uri_utf8 types.AnyUri = IsUtf8-are_ascii _ refl
uri_utf8 types.YearMonth = IsUtf8-are_ascii _ refl
uri_utf8 types.Time = IsUtf8-are_ascii _ refl
uri_utf8 types.DateTime = IsUtf8-are_ascii _ refl

-- ---- the text of a value

two_utf8 : (n : ℕ) → n < 100 → IsUtf8 (two_digits n)
two_utf8 n small = more_utf8 (48 + n / 10) ((48 + n % 10) ∷ []) (omega arith) (byte_utf8 (48 + n % 10) (omega arith))

-- a number below 100, a byte, and what follows
and_then_utf8 : (n b : ℕ) (rest : List ℕ) → n < 100 → b < 128 → IsUtf8 rest → IsUtf8 (two_digits n ++ b ∷ rest)
and_then_utf8 n b rest small ascii u = IsUtf8-append (two_digits n) (b ∷ rest) (two_utf8 n small) (more_utf8 b rest ascii u)

pub date_utf8 : (day : Day) → IsRealDay day → IsUtf8 (date_text day)
unfolding date_text
date_utf8 day real =
    let small = date_small day.year day.month day.day real in
    IsUtf8-append (two_digits (day.year / 100)) _ (two_utf8 (day.year / 100) (let y = small.0 in omega arith))
    (and_then_utf8 (day.year % 100) 45 _ (omega arith) (omega arith) (and_then_utf8 day.month 45 (two_digits day.day) small.1 (omega arith) (two_utf8 day.day small.2)))

time_utf8 : (time : TimeOfDay) → IsRealTime time → IsUtf8 (time_text time)
unfolding time_text
time_utf8 time real =
    let small = time_small time.hour time.minute time.second real in
    and_then_utf8 time.hour 58 _ small.0 (omega arith) (and_then_utf8 time.minute 58 (two_digits time.second) small.1 (omega arith) (two_utf8 time.second small.2))

pub moment_utf8 : (moment : DateTime) → IsRealMoment moment → IsUtf8 (date_time_text moment)
unfolding date_time_text date_text time_text
moment_utf8 moment real = IsUtf8-append (date_text moment.date) _ (date_utf8 moment.date real.0) (more_utf8 84 (time_text moment.time) (omega arith) (time_utf8 moment.time real.1))

part_utf8 : (n b : ℕ) → b < 128 → IsUtf8 (part_text n (b ∷ []))
part_utf8 n b ascii = by (n == 0)
  where
    by : (z : Bool) → IsUtf8 (if z then [] else (decimal n ++ b ∷ []))
    by true = IsUtf8-nil
    by false = IsUtf8-append (decimal n) (b ∷ []) (decimal_utf8 n) (byte_utf8 b ascii)

sign_utf8 : (z : ℤ) → IsUtf8 (sign_text z)
sign_utf8 z = by (int_lt z (pos 0))
  where
    by : (b : Bool) → IsUtf8 (if b then codes "-" else [])
    by true = byte_utf8 45 (omega arith)
    by false = IsUtf8-nil

period_utf8 : (months : ℕ) → IsUtf8 (period_text months)
period_utf8 months = by (months == 0)
  where
    by : (z : Bool) → IsUtf8 (if z then codes "P0M" else (codes "P" ++ part_text (months / 12) (codes "Y") ++ part_text (months % 12) (codes "M")))
    by true = IsUtf8-are_ascii _ refl
    by false =
        more_utf8 80 (part_text (months / 12) (codes "Y") ++ part_text (months % 12) (codes "M")) (omega arith)
        (IsUtf8-append (part_text (months / 12) (codes "Y")) (part_text (months % 12) (codes "M")) (part_utf8 (months / 12) 89 (omega arith)) (part_utf8 (months % 12) 77 (omega arith)))

duration_utf8 : (months : ℤ) → IsUtf8 (duration_text months)
unfolding duration_text
duration_utf8 months = IsUtf8-append (sign_text months) (period_text (unsigned_abs months)) (sign_utf8 months) (period_utf8 (unsigned_abs months))

-- ---- values

-- a value's own text is UTF-8, and a day, a time and a moment are real
abbrev pub IsUtf8Value : Value → Type 0
IsUtf8Value (values.Text text) = IsUtf8 text
IsUtf8Value (values.AnyUri uri) = IsUtf8 uri
IsUtf8Value (values.Date date) = IsRealDay date
IsUtf8Value (values.Time time) = IsRealTime time
IsUtf8Value (values.DateTime moment) = IsRealMoment moment
IsUtf8Value other = Unit {0}

pub value_written_utf8 : (v : Value) → IsUtf8Value v → IsUtf8Data (value_written v)
unfolding value_written text_of
value_written_utf8 (values.Text text) h = h
value_written_utf8 (values.Boolean boolean) h = tt
value_written_utf8 (values.Integer integer) h = tt
value_written_utf8 (values.Date date) h = date_utf8 date h
value_written_utf8 (values.AnyUri uri) h = h
value_written_utf8 (values.YearMonth months) h = duration_utf8 months
value_written_utf8 (values.Time time) h = time_utf8 time h
value_written_utf8 (values.DateTime moment) h = moment_utf8 moment h

made_utf8 : {A : Type 0} (make : A → Value) (o : Option A) → ((x : A) → o ≡ Some x → IsUtf8Value (make x)) → IfThere IsUtf8Value (option_map make o)
made_utf8 make None good = tt
made_utf8 make (Some x) good = good x refl

-- the value of a type that a text spells
pub value_of_utf8 : (datatype : DataType) (text : List ℕ) → IsUtf8 text → IfThere IsUtf8Value (value_of datatype text)
unfolding value_of
value_of_utf8 types.Text text u = u
value_of_utf8 types.Boolean text u = made_utf8 values.Boolean (boolean_of text) (λ x is. tt)
value_of_utf8 types.Integer text u = made_utf8 values.Integer (integer_of text) (λ x is. tt)
value_of_utf8 types.Date text u = made_utf8 values.Date (date_of text) (λ x is. date_real text x is)
value_of_utf8 types.AnyUri text u = u
value_of_utf8 types.YearMonth text u = made_utf8 values.YearMonth (duration_of text) (λ x is. tt)
value_of_utf8 types.Time text u = made_utf8 values.Time (time_of text) (λ x is. time_real text x is)
value_of_utf8 types.DateTime text u = made_utf8 values.DateTime (date_time_of text) (λ x is. moment_real text x is)

pub boolean_utf8 : (boolean : Bool) (datatype : DataType) → IfThere IsUtf8Value (boolean_as boolean datatype)
boolean_utf8 boolean types.Boolean = tt
boolean_utf8 boolean types.Text = tt
boolean_utf8 boolean types.Integer = tt
boolean_utf8 boolean types.Date = tt
boolean_utf8 boolean types.AnyUri = tt
boolean_utf8 boolean types.YearMonth = tt
boolean_utf8 boolean types.Time = tt
boolean_utf8 boolean types.DateTime = tt

pub integer_utf8 : (integer : ℤ) (datatype : DataType) → IfThere IsUtf8Value (integer_as integer datatype)
integer_utf8 integer types.Integer = tt
integer_utf8 integer types.Text = tt
integer_utf8 integer types.Boolean = tt
integer_utf8 integer types.Date = tt
integer_utf8 integer types.AnyUri = tt
integer_utf8 integer types.YearMonth = tt
integer_utf8 integer types.Time = tt
integer_utf8 integer types.DateTime = tt

-- ---- literals

-- the text of a literal is UTF-8
abbrev pub IsUtf8Literal : RawLiteral → Type 0
IsUtf8Literal (literals.Text text) = IsUtf8 text
IsUtf8Literal other = Unit {0}

pub literal_utf8 : (literal : RawLiteral) (datatype : DataType) → IsUtf8Literal literal → IfThere IsUtf8Value (literal_as literal datatype)
unfolding literal_as
literal_utf8 (literals.Text text) datatype h = value_of_utf8 datatype text h
literal_utf8 (literals.Boolean boolean) datatype h = boolean_utf8 boolean datatype
literal_utf8 (literals.Integer integer) datatype h = by (is_within_64_bits integer)
  where
    by : (b : Bool) → IfThere IsUtf8Value (if b then integer_as integer datatype else None)
    by true = integer_utf8 integer datatype
    by false = tt
