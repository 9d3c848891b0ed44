-- The written text of a value.
use Rattle.std.specs.Prelude.{ℕ, ◌+◌, ◌/◌, ◌%◌, ◌==◌, List, [], ◌∷◌, ◌++◌, ℤ, pos, int_lt, unsigned_abs, if◌then◌else◌, codes, decimal}
use Rattle.std.specs.Fmt.{signed_decimal}
use Rattle.ent_values.specs.Calendar.{Day, TimeOfDay}
use Rattle.ent_values.specs.declared.date_time.DateTime.{DateTime}
use Rattle.ent_values.specs.declared.value.Value.{Value}
use Rattle.ent_values.specs.declared.value.Value.TheVariants as values

-- a number below 100 in two digits
abbrev pub two_digits : ℕ → List ℕ
two_digits n = (48 + n / 10) ∷ (48 + n % 10) ∷ []

-- year, month and day in 4, 2 and 2 digits, with `-` between them
unfoldable pub date_text : Day → List ℕ
date_text date =
    two_digits (date.year / 100) ++ two_digits (date.year % 100) ++ codes "-" ++ two_digits date.month ++ codes "-"
    ++ two_digits date.day

-- hour, minute and second in 2 digits each, with `:` between them
unfoldable pub time_text : TimeOfDay → List ℕ
time_text time = two_digits time.hour ++ codes ":" ++ two_digits time.minute ++ codes ":" ++ two_digits time.second

-- the date, a `T` and the time
unfoldable pub date_time_text : DateTime → List ℕ
date_time_text moment = date_text moment.date ++ codes "T" ++ time_text moment.time

-- a number and the letter behind it, and nothing for zero
abbrev pub part_text : ℕ → List ℕ → List ℕ
part_text n letter = if n == 0 then [] else (decimal n ++ letter)

-- `-` in front of a negative number
abbrev pub sign_text : ℤ → List ℕ
sign_text number = if int_lt number (pos 0) then codes "-" else []

-- months as years and rest, each left out if it is zero, but no months at all as `P0M`
abbrev pub period_text : ℕ → List ℕ
period_text months =
    if months == 0 then codes "P0M"
    else (codes "P" ++ part_text (months / 12) (codes "Y") ++ part_text (months % 12) (codes "M"))

-- the months of a duration with their sign
unfoldable pub duration_text : ℤ → List ℕ
duration_text months = sign_text months ++ period_text (unsigned_abs months)

-- the written text: an integer without `+` and leading zeros, a date, a time and a dateTime without `Z`
unfoldable pub text_of : Value → List ℕ
text_of (values.Text text) = text
text_of (values.Boolean boolean) = if boolean then codes "true" else codes "false"
text_of (values.Integer integer) = signed_decimal integer
text_of (values.Date date) = date_text date
text_of (values.AnyUri uri) = uri
text_of (values.YearMonth duration) = duration_text duration
text_of (values.Time time) = time_text time
text_of (values.DateTime moment) = date_time_text moment
