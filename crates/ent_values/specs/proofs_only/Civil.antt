-- The date of jiff that a day of the calendar is, and that each date of it in the years from 1 on is the one of its day.
use Rattle.std.specs.Prelude.{◌≡◌, ◌≤◌, ℕ, Bool, true, false, ℤ, pos, negsuc, ◌≤ℤ◌, unsigned_abs, refl}
use Rattle.std.specs.Int.{IsInRange}
use Rattle.std.proofs.Common.{sym, ◌∙◌}
use Rattle.std.proofs.Math.Bridge.{le_prop}
use Rattle.std.proofs.lemmas.Bool.{and_from, and_parts, le-leb, leb-true, true≢false}
use lib.Dec.{T_prop, le→leb, leb→le}
use lib.Signed.{le_z}
use Rattle.jiff_core.specs.Calendar.{IsYear, days_in_month}
use Rattle.jiff_core.specs.declared.civil.date.Date.{Date}
use Rattle.ent_values.specs.Calendar.{Day, days_of_month, is_date}
use Rattle.ent_values.specs.Civil.{IsFromYearOne, day_of_civil}

-- what it says that the calendar has a day
record IsReal (year month day : ℕ) : Type 0 where
  first_year : 1 ≤ year
  last_year : year ≤ 9999
  first_month : 1 ≤ month
  last_month : month ≤ 12
  first_day : 1 ≤ day
  last_day : day ≤ days_of_month year month

real : (year month day : ℕ) → is_date year month day ≡ true → IsReal year month day
real year month day is =
    let e = and_parts _ _ is in
    let d = and_parts _ _ e.0 in
    let c = and_parts _ _ d.0 in
    let b = and_parts _ _ c.0 in
    let a = and_parts _ _ b.0 in
    record {
      first_year = leb-true 1 year a.0;
      last_year = leb-true year 9999 a.1;
      first_month = leb-true 1 month b.1;
      last_month = leb-true month 12 c.1;
      first_day = leb-true 1 day d.1;
      last_day = leb-true day (days_of_month year month) e.1;
    }

real_back : (year month day : ℕ) → IsReal year month day → is_date year month day ≡ true
real_back year month day is =
    and_from _ _
    (and_from _ _
    (and_from _ _
    (and_from _ _
    (and_from _ _ (le-leb 1 year is.first_year) (le-leb year 9999 is.last_year)) (le-leb 1 month is.first_month))
    (le-leb month 12 is.last_month))
    (le-leb 1 day is.first_day))
    (le-leb day (days_of_month year month) is.last_day)

-- what jiff says of the parts of a date
pub year_in : (year month day : ℕ) → is_date year month day ≡ true → IsYear (pos year)
year_in year month day is = (record { le = tt }, record { le = le→leb year 9999 ((real year month day is).last_year) })

pub month_in : (year month day : ℕ) → is_date year month day ≡ true → IsInRange 1 12 month
month_in year month day is = ((real year month day is).first_month, (real year month day is).last_month)

pub day_in : (year month day : ℕ) → is_date year month day ≡ true → IsInRange 1 (days_in_month (pos year) month) day
day_in year month day is = ((real year month day is).first_day, (real year month day is).last_day)

-- the calendar has the day of such a date
pub is_real : (year : ℤ) (month day : ℕ) → pos 1 ≤ℤ year → IsYear year → IsInRange 1 12 month → IsInRange 1 (days_in_month year month) day → is_date (unsigned_abs year) month day ≡ true
is_real (negsuc n) month day from years months days = absurd from.le
is_real (pos year) month day from years months days =
    real_back year month day (record {
      first_year = leb→le 1 year from.le;
      last_year = leb→le year 9999 years.1.le;
      first_month = months.0;
      last_month = months.1;
      first_day = days.0;
      last_day = days.1;
    })

-- the date of jiff, where the calendar has the day
abbrev pub civil_if : (year month day : ℕ) (is : Bool) → is_date year month day ≡ is → Date
civil_if year month day true is = record {
  year = pos year;
  month = month;
  day = day;
  year_in = year_in year month day is;
  month_in = month_in year month day is;
  day_in = day_in year month day is;
}
civil_if year month day false is = record {
  year = pos 1;
  month = 1;
  day = 1;
  year_in = year_in 1 1 1 refl;
  month_in = month_in 1 1 1 refl;
  day_in = day_in 1 1 1 refl;
}

-- the date of jiff that a day of the calendar is, and the first day of all for any other
abbrev pub civil_of : Day → Date
civil_of day = civil_if day.year day.month day.day (is_date day.year day.month day.day) refl

le_z_prop : (a b : ℤ) → IsProp (a ≤ℤ b)
le_z_prop a b p q = λ i. record { le = T_prop (le_z a b) p.le q.le i }

range_prop : (low high n : ℕ) → IsProp (IsInRange low high n)
range_prop low high n p q = λ i. (le_prop p.0 q.0 i, le_prop p.1 q.1 i)

abbrev held : (year : ℤ) (month day : ℕ) → IsYear year → IsInRange 1 12 month → IsInRange 1 (days_in_month year month) day → Date
held year month day years months days = record { year = year; month = month; day = day; year_in = years; month_in = months; day_in = days }

same_parts : (year : ℤ) (month day : ℕ) (y1 y2 : IsYear year) (m1 m2 : IsInRange 1 12 month) (d1 d2 : IsInRange 1 (days_in_month year month) day) → held year month day y1 m1 d1 ≡ held year month day y2 m2 d2
same_parts year month day y1 y2 m1 m2 d1 d2 =
    λ i. held year month day (le_z_prop _ _ y1.0 y2.0 i, le_z_prop _ _ y1.1 y2.1 i) (range_prop 1 12 month m1 m2 i) (range_prop 1 (days_in_month year month) day d1 d2 i)

back : (year : ℤ) (month day : ℕ) (years : IsYear year) (months : IsInRange 1 12 month) (days : IsInRange 1 (days_in_month year month) day) → pos 1 ≤ℤ year → civil_of (day_of_civil (held year month day years months days)) ≡ held year month day years months days
back (negsuc n) month day years months days from = absurd from.le
back (pos year) month day years months days from = by_test (is_date year month day) refl
  where
    by_test : (b : Bool) (e : is_date year month day ≡ b) → civil_if year month day b e ≡ held (pos year) month day years months days
    by_test true e = same_parts (pos year) month day _ years _ months _ days
    by_test false e = absurd (true≢false (sym (is_real (pos year) month day from years months days) ∙ e))

-- a date of jiff in those years is the one of its day
pub civil_back : (date : Date) → IsFromYearOne date → civil_of (day_of_civil date) ≡ date
civil_back date from = back date.year date.month date.day date.year_in date.month_in date.day_in from
