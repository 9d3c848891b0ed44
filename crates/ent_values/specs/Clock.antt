-- The times of day that times of jiff are.
use Rattle.std.specs.Prelude.{◌≡◌}
use Rattle.jiff_core.specs.declared.civil.time.Time.{Time}
use Rattle.ent_values.specs.Calendar.{TimeOfDay}

-- the hour, the minute and the second of a time of jiff
abbrev pub time_of_clock : Time → TimeOfDay
time_of_clock time = record { hour = time.hour; minute = time.minute; second = time.second }

-- a time in whole seconds
abbrev pub IsWhole : Time → Type 0
IsWhole time = time.subsec_nanosecond ≡ 0
