-- The days that dates of jiff are.
use Rattle.std.specs.Prelude.{pos, ◌≤ℤ◌, unsigned_abs}
use Rattle.jiff_core.specs.declared.civil.date.Date.{Date}
use Rattle.ent_values.specs.Calendar.{Day}

-- the day that a date of jiff is
abbrev pub day_of_civil : Date → Day
day_of_civil date = record { year = unsigned_abs date.year; month = date.month; day = date.day }

-- a date in the years from 1 on
abbrev pub IsFromYearOne : Date → Type 0
IsFromYearOne date = pos 1 ≤ℤ date.year
