-- That each time of jiff in whole seconds is the one of its hour, minute and second.
use Rattle.std.specs.Prelude.{◌≡◌, ◌<◌, ℕ, Bool, true, false, refl}
use Rattle.std.proofs.Common.{sym, subst, ◌∙◌}
use Rattle.std.proofs.Math.Bridge.{le_prop}
use Rattle.std.proofs.lemmas.Bool.{and_from, and_parts, lt-ltb, ltb-true, true≢false}
use Rattle.jiff_core.specs.declared.civil.time.Time.{Time}
use Rattle.ent_values.specs.Calendar.{TimeOfDay, is_time}
use Rattle.ent_values.specs.Clock.{IsWhole, time_of_clock}

-- what it says that a clock shows a time
abbrev IsShown : ℕ → ℕ → ℕ → Type 0
IsShown hour minute second = (hour < 24) × (minute < 60) × (second < 60)

pub shown : (hour minute second : ℕ) → is_time hour minute second ≡ true → IsShown hour minute second
shown hour minute second is =
    let b = and_parts _ _ is in
    let a = and_parts _ _ b.0 in
    (ltb-true hour 24 a.0, ltb-true minute 60 a.1, ltb-true second 60 b.1)

pub is_shown : (hour minute second : ℕ) → hour < 24 → minute < 60 → second < 60 → is_time hour minute second ≡ true
is_shown hour minute second hours minutes seconds =
    and_from _ _ (and_from _ _ (lt-ltb hour 24 hours) (lt-ltb minute 60 minutes)) (lt-ltb second 60 seconds)

-- the time of jiff with these parts
abbrev held : (hour minute second fraction : ℕ) → hour < 24 → minute < 60 → second < 60 → fraction < 1000000000 → Time
held hour minute second fraction hours minutes seconds fractions = record {
  hour = hour;
  minute = minute;
  second = second;
  subsec_nanosecond = fraction;
  hour_in = hours;
  minute_in = minutes;
  second_in = seconds;
  subsec_in = fractions;
}

pub none_lt : 0 < 1000000000
none_lt = ltb-true 0 1000000000 refl

-- the time of jiff, where a clock shows the parts, and midnight elsewhere
abbrev clock_if : (hour minute second : ℕ) (is : Bool) → is_time hour minute second ≡ is → Time
clock_if hour minute second true is =
    let parts = shown hour minute second is in held hour minute second 0 parts.0 parts.1 parts.2 none_lt
clock_if hour minute second false is =
    let parts = shown 0 0 0 refl in held 0 0 0 0 parts.0 parts.1 parts.2 none_lt

-- the time of jiff that a time of a day is, and midnight for any other
abbrev pub clock_of : TimeOfDay → Time
clock_of time = clock_if time.hour time.minute time.second (is_time time.hour time.minute time.second) refl

same_parts : (hour minute second fraction : ℕ) (h1 h2 : hour < 24) (m1 m2 : minute < 60) (s1 s2 : second < 60) (f : fraction < 1000000000) → fraction ≡ 0 → held hour minute second 0 h1 m1 s1 none_lt ≡ held hour minute second fraction h2 m2 s2 f
same_parts hour minute second fraction h1 h2 m1 m2 s1 s2 f whole =
    subst (λ n. (f : n < 1000000000) → held hour minute second 0 h1 m1 s1 none_lt ≡ held hour minute second n h2 m2 s2 f) (sym whole)
    (λ f i. held hour minute second 0 (le_prop h1 h2 i) (le_prop m1 m2 i) (le_prop s1 s2 i) (le_prop none_lt f i)) f

back : (hour minute second fraction : ℕ) (hours : hour < 24) (minutes : minute < 60) (seconds : second < 60) (fractions : fraction < 1000000000) → fraction ≡ 0 → clock_of (time_of_clock (held hour minute second fraction hours minutes seconds fractions)) ≡ held hour minute second fraction hours minutes seconds fractions
back hour minute second fraction hours minutes seconds fractions whole = by_test (is_time hour minute second) refl
  where
    by_test : (b : Bool) (e : is_time hour minute second ≡ b) → clock_if hour minute second b e ≡ held hour minute second fraction hours minutes seconds fractions
    by_test true e = same_parts hour minute second fraction _ hours _ minutes _ seconds fractions whole
    by_test false e = absurd (true≢false (sym (is_shown hour minute second hours minutes seconds) ∙ e))

-- a time of jiff in whole seconds is the one of its hour, minute and second
pub clock_back : (time : Time) → IsWhole time → clock_of (time_of_clock time) ≡ time
clock_back time whole = back time.hour time.minute time.second time.subsec_nanosecond time.hour_in time.minute_in time.second_in time.subsec_in whole
