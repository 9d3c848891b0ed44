-- That what is written reads back.
use Rattle.std.specs.Prelude.{◌≡◌, ◌<◌, ◌/◌, ℕ, List, true, ⊤, Some, unsigned_abs}
use Rattle.ent_values.specs.Calendar.{Day, TimeOfDay, is_date, is_time}
use Rattle.ent_values.specs.Reading.{is_within_64_bits, value_of}
use Rattle.ent_values.specs.Types.{datatype_of}
use Rattle.ent_values.specs.Writing.{text_of}
use Rattle.ent_values.specs.declared.date_time.DateTime.{DateTime}
use Rattle.ent_values.specs.declared.value.Value.{Value}
use Rattle.ent_values.specs.declared.value.Value.TheVariants as values

-- the calendar has that day
abbrev pub IsRealDay : Day → Type 0
IsRealDay day = is_date day.year day.month day.day ≡ true

-- a clock shows that time
abbrev pub IsRealTime : TimeOfDay → Type 0
IsRealTime time = is_time time.hour time.minute time.second ≡ true

-- the calendar has its day and a clock shows its time
abbrev pub IsRealMoment : DateTime → Type 0
IsRealMoment moment = IsRealDay moment.date × IsRealTime moment.time

-- what the type says of a value: an integer is within 64 bits, the calendar has its day and a clock shows its time
abbrev pub IsReal : Value → Type 0
IsReal (values.Integer integer) = is_within_64_bits integer ≡ true
IsReal (values.Date date) = IsRealDay date
IsReal (values.Time time) = IsRealTime time
IsReal (values.DateTime moment) = IsRealMoment moment
IsReal _ = ⊤

-- a duration has at most 999,999,999 whole years, which 9 digits write
abbrev pub HasFewYears : Value → Type 0
HasFewYears (values.YearMonth months) = unsigned_abs months / 12 < 1000000000
HasFewYears _ = ⊤

-- that text reads as that value, if a duration has few years
abbrev pub IsReadBack : Value → List ℕ → Type 0
IsReadBack value text = HasFewYears value → value_of (datatype_of value) text ≡ Some value

-- a value of the program whose years can be written in 9 digits
abbrev pub IsReadable : Value → Type 0
IsReadable (values.Text text) = ⊤
IsReadable (values.Boolean boolean) = ⊤
IsReadable (values.Integer integer) = is_within_64_bits integer ≡ true
IsReadable (values.Date date) = IsRealDay date
IsReadable (values.AnyUri uri) = ⊤
IsReadable (values.YearMonth months) = unsigned_abs months / 12 < 1000000000
IsReadable (values.Time time) = IsRealTime time
IsReadable (values.DateTime moment) = IsRealMoment moment

-- the text of a value reads as that value
abbrev pub TextsReadBack : Type 0
TextsReadBack = (value : Value) → IsReadable value → value_of (datatype_of value) (text_of value) ≡ Some value
