-- Days as jiff holds them: how they order, and which of them there are.
use Rattle.std.proofs.Common.{◌≡◌, ◌≤◌, ◌<◌, ◌≤ℤ◌, ◌<ℤ◌, ◌⊎◌, inl, inr, ℕ, ℤ, pos, negsuc, Bool, true, false, Some, None, Result, Ok, Err, IsOk, IfOk, subst, int_cmp, int_eq, ap, sym, refl, ◌∙◌, arith}
use Rattle.std.proofs.lemmas.Bool.{lt-ltb, le-ltb, eq-eqb, ne_eqb, lt-leb, true≢false}
use Rattle.std.specs.Cmp.{int_cmp_is}
use Rattle.std.specs.Ordering.{eq_by_cmp, is_eq}
use Rattle.std.specs.Prelude.{unsigned_abs}
use Rattle.std.specs.Result.{result_ok}
use Rattle.std.specs.declared.cmp.Ordering.TheVariants.{Less, Equal, Greater}
use Rattle.jiff_core.proofs.DateLemmas.{IsEarlier, cases_date, epoch_day-lt, epoch_day_same}
use Rattle.jiff_core.proofs.SignedLemmas.{signed_arith}
use Rattle.jiff_core.specs.Calendar.{IsDate, IsYear, days_in_month}
use Rattle.jiff_core.specs.Date.{IsYmd, epoch_day}
use Rattle.jiff_core.specs.declared.civil.date.Date.{Date}
use Rattle.ent_values.specs.Calendar.{Day, day_of, day_order, is_date}
use Rattle.ent_values.specs.Civil.{IsFromYearOne, day_of_civil}
use Rattle.ent_values.specs.proofs_only.Civil.{day_in, is_real, month_in, year_in}

-- the first day comes before the second
abbrev IsBefore : Day → Day → Type 0
IsBefore a b = (a.year < b.year) ⊎ ((a.year ≡ b.year) × ((a.month < b.month) ⊎ ((a.month ≡ b.month) × (a.day < b.day))))

before : (a b : Day) → IsBefore a b → day_order a b ≡ Less
before a b (inl year) = rw (lt-ltb a.year b.year year) refl
before a b (inr (year, inl month)) =
    rw (le-ltb a.year b.year (omega arith), eq-eqb a.year b.year year, lt-ltb a.month b.month month) refl
before a b (inr (year, inr (month, day))) =
    rw (le-ltb a.year b.year (omega arith), eq-eqb a.year b.year year, le-ltb a.month b.month (omega arith), eq-eqb a.month b.month month, lt-ltb a.day b.day day) refl

after : (a b : Day) → IsBefore b a → day_order a b ≡ Greater
after a b (inl year) = rw (le-ltb a.year b.year (omega arith), ne_eqb a.year b.year (λ e. absurd (omega arith))) refl
after a b (inr (year, inl month)) =
    rw (le-ltb a.year b.year (omega arith), eq-eqb a.year b.year (sym year), le-ltb a.month b.month (omega arith), ne_eqb a.month b.month (λ e. absurd (omega arith))) refl
after a b (inr (year, inr (month, day))) =
    rw (le-ltb a.year b.year (omega arith), eq-eqb a.year b.year (sym year), le-ltb a.month b.month (omega arith), eq-eqb a.month b.month (sym month), le-ltb a.day b.day (omega arith), ne_eqb a.day b.day (λ e. absurd (omega arith))) refl

same : (a b : Day) → a.year ≡ b.year → a.month ≡ b.month → a.day ≡ b.day → day_order a b ≡ Equal
same a b year month day =
    rw (le-ltb a.year b.year (omega arith), eq-eqb a.year b.year year, le-ltb a.month b.month (omega arith), eq-eqb a.month b.month month, le-ltb a.day b.day (omega arith), eq-eqb a.day b.day day) refl

years : (x y : ℤ) → pos 1 ≤ℤ x → pos 1 ≤ℤ y → x <ℤ y → unsigned_abs x < unsigned_abs y
years (pos x) (pos y) from from' lt = omega (arith, signed_arith)
years (negsuc x) y from from' lt = absurd from.le
years (pos x) (negsuc y) from from' lt = absurd from'.le

earlier : (a b : Date) → IsFromYearOne a → IsFromYearOne b → IsEarlier a b → IsBefore (day_of_civil a) (day_of_civil b)
earlier a b from from' (inl year) = inl (years a.year b.year from from' year)
earlier a b from from' (inr (year, rest)) = inr (ap unsigned_abs year, rest)

-- jiff orders its dates as their days order
pub order_is : (a b : Date) → IsFromYearOne a → IsFromYearOne b → int_cmp (epoch_day a) (epoch_day b) ≡ day_order (day_of_civil a) (day_of_civil b)
order_is a b from from' =
    elim (cases_date a b) [
      | inl lt ↦ sym (int_cmp_is (epoch_day a) (epoch_day b) Less (epoch_day-lt a b lt))
          ∙ sym (before (day_of_civil a) (day_of_civil b) (earlier a b from from' lt))
      | inr (inl gt) ↦ sym (int_cmp_is (epoch_day a) (epoch_day b) Greater (epoch_day-lt b a gt))
          ∙ sym (after (day_of_civil a) (day_of_civil b) (earlier b a from' from gt))
      | inr (inr e) ↦ sym (int_cmp_is (epoch_day a) (epoch_day b) Equal (epoch_day_same a b e.0 e.1 e.2))
          ∙ sym (same (day_of_civil a) (day_of_civil b) (ap unsigned_abs e.0) e.1 e.2)
    ]

-- and knows two for the same where they order the same
pub equal_is : (a b : Date) → IsFromYearOne a → IsFromYearOne b → int_eq (epoch_day a) (epoch_day b) ≡ eq_by_cmp day_order (day_of_civil a) (day_of_civil b)
equal_is a b from from' = ap is_eq (order_is a b from from')

-- the date that jiff makes of a day is that day
pub made : (year month day : ℕ) (y m d : ℤ) (date : Date) → y ≡ pos year → m ≡ pos month → d ≡ pos day → IsYmd y m d date → 1 ≤ year → Some (day_of_civil date) ≡ day_of year month day
made year month day y m d date years months days is from =
    let in_year : date.year ≡ pos year = is.0 ∙ years in
    let from_one : pos 1 ≤ℤ date.year = rw in_year (omega (arith, signed_arith)) in
    let real = is_real date.year date.month date.day from_one date.year_in date.month_in date.day_in in
    let same_year : unsigned_abs date.year ≡ year = ap unsigned_abs in_year in
    let same_month : date.month ≡ month = ap unsigned_abs (is.1 ∙ months) in
    let same_day : date.day ≡ day = ap unsigned_abs (is.2 ∙ days) in
    sym (rw (← same_year, ← same_month, ← same_day, real) refl)

-- where jiff makes none, there is none
pub not_made : (year month day : ℕ) (y m d : ℤ) → y ≡ pos year → m ≡ pos month → d ≡ pos day → ¬ (IsDate y m d) → None ≡ day_of year month day
not_made year month day y m d years months days other = go (is_date year month day) refl
  where
    at_least_one : (z : ℤ) (n : ℕ) → z ≡ pos n → 1 ≤ n → pos 1 ≤ℤ z
    at_least_one z n e h = rw e (omega (arith, signed_arith))

    at_most : (z : ℤ) (n most : ℕ) → z ≡ pos n → n ≤ most → z ≤ℤ pos most
    at_most z n most e h = rw e (omega (arith, signed_arith))

    go : (b : Bool) → is_date year month day ≡ b → None ≡ day_of year month day
    go false e = rw e refl
    go true e =
        let in_year : IsYear y = rw years (year_in year month day e) in
        let in_month = month_in year month day e in
        let in_day = day_in year month day e in
        let length : days_in_month y (unsigned_abs m) ≡ days_in_month (pos year) month = rw (years, months) refl in
        absurd
        (other
        (in_year, (at_least_one m month months in_month.0, at_most m month 12 months in_month.1), (at_least_one d day days in_day.0, rw length (at_most d day (days_in_month (pos year) month) days in_day.1))))

-- a value stands in place of none
pub some_value : {A E : Type 0} (r : Result A E) → IsOk r → None ≡ result_ok r → ⊥
some_value (Ok x) ok e = cc
some_value (Err x) ok e = absurd (true≢false (sym ok))

pub value_of_ok : {A E : Type 0} (P : A → Type 0) (r : Result A E) (x : A) → IfOk r P → Some x ≡ result_ok r → P x
value_of_ok P (Ok y) x h e = let same : y ≡ x = cc in subst P same h
value_of_ok P (Err y) x h e = cc

-- nor in the year 0
pub before_year_one : (year month day : ℕ) → year < 1 → None ≡ day_of year month day
before_year_one year month day none = rw (lt-leb 1 year none) refl
