-- Sums of a date and a duration of years and months (appendix A.3.7).
use Rattle.std.specs.Prelude.{ℕ, ◌+◌, ◌-◌, ◌*◌, ◌/◌, ◌%◌, min, ℤ, pos, negsuc, ◌+ℤ◌, ◌&&◌, nat_le, nat_lt, Result, Ok, Err, if◌then◌else◌}
use Rattle.ent_values.specs.Calendar.{Day, days_of_month}
use Rattle.ent_values.specs.declared.value.Value.TheVariants as values
use Rattle.ent_functions.specs.declared.arg.Arg.{Arg}
use Rattle.ent_functions.specs.declared.arg.Arg.TheVariants.{One}
use Rattle.ent_functions.specs.declared.arg.Fault.{Fault}
use Rattle.ent_functions.specs.declared.arg.Fault.TheVariants.{DateRange}

-- the months from the beginning of the year 0 to a date's month
abbrev pub month_number : Day → ℕ
month_number date = 12 * date.year + (date.month - 1)

-- that day of the month with that number, or the month's last day if it has no such day
abbrev pub day_in_month : ℕ → ℕ → Day
day_in_month number day = record {
  year = number / 12;
  month = number % 12 + 1;
  day = min day (days_of_month (number / 12) (number % 12 + 1));
}

-- that day of the month with that number, or DateRange outside the years 1 to 9999
abbrev pub date_in_month : ℤ → ℕ → Result Arg Fault
date_in_month (pos number) day =
    if nat_le 12 number && nat_lt number 120000 then Ok (One (values.Date (day_in_month number day))) else Err DateRange
date_in_month (negsuc number) day = Err DateRange

-- the date so many months later
abbrev pub months_later : Day → ℤ → Result Arg Fault
months_later date months = date_in_month (pos (month_number date) +ℤ months) date.day
