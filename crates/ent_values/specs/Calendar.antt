-- Days of the Gregorian calendar, and times of a day.
use Rattle.std.specs.Prelude.{ℕ, Bool, ◌%◌, ◌==◌, ◌||◌, ◌&&◌, not, nat_le, nat_lt, if◌then◌else◌, Option, Some, None}
use Rattle.std.specs.Ordering.{nat_cmp, on, then_cmp}
use Rattle.std.specs.declared.cmp.Ordering.{Ordering}

-- a year, a month of it from 1 to 12, and a day of that month
pub record Day : Type 0 where
  pub year : ℕ
  pub month : ℕ
  pub day : ℕ

-- a leap year: a multiple of 4 that is no multiple of 100, or a multiple of 400
abbrev pub is_leap_year : ℕ → Bool
is_leap_year year = (year % 4 == 0) && (not (year % 100 == 0) || (year % 400 == 0))

-- how many days a month has: April, June, September and November 30, February 28 or 29, the others 31
abbrev pub days_of_month : ℕ → ℕ → ℕ
days_of_month year month =
    if month == 2 then (if is_leap_year year then 29 else 28)
    else (if (month == 4) || (month == 6) || (month == 9) || (month == 11) then 30 else 31)

-- the calendar has that day, in the years 1 to 9999
abbrev pub is_date : ℕ → ℕ → ℕ → Bool
is_date year month day =
    nat_le 1 year && nat_le year 9999 && nat_le 1 month && nat_le month 12 && nat_le 1 day
    && nat_le day (days_of_month year month)

-- the day of a year, a month and a day of it, if the calendar has it
abbrev pub day_of : ℕ → ℕ → ℕ → Option Day
day_of year month day = if is_date year month day then Some (record { year = year; month = month; day = day }) else None

-- days by time: by year, then by month, then by day
abbrev pub day_order : Day → Day → Ordering
day_order = then_cmp (on (λ day. day.year) nat_cmp) (then_cmp (on (λ day. day.month) nat_cmp) (on (λ day. day.day) nat_cmp))

-- an hour of a day from 0 to 23, a minute of it and a second of that from 0 to 59
pub record TimeOfDay : Type 0 where
  pub hour : ℕ
  pub minute : ℕ
  pub second : ℕ

-- a clock shows that time, from 00:00:00 to 23:59:59
abbrev pub is_time : ℕ → ℕ → ℕ → Bool
is_time hour minute second = nat_lt hour 24 && nat_lt minute 60 && nat_lt second 60

-- the time of an hour, a minute and a second, if a clock shows it
abbrev pub time_of_day : ℕ → ℕ → ℕ → Option TimeOfDay
time_of_day hour minute second =
    if is_time hour minute second then Some (record { hour = hour; minute = minute; second = second }) else None

-- times of a day by hour, then by minute, then by second
abbrev pub time_order : TimeOfDay → TimeOfDay → Ordering
time_order =
    then_cmp (on (λ time. time.hour) nat_cmp) (then_cmp (on (λ time. time.minute) nat_cmp) (on (λ time. time.second) nat_cmp))
