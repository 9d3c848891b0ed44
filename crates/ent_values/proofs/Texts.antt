-- Numbers as they are written.
use Rattle.std.proofs.Common.{◌≡◌, ◌≤◌, ◌<◌, ◌+◌, ◌-◌, ◌/◌, ◌%◌, ◌^◌, [], ◌∷◌, ◌++◌, ℕ, zero, suc, Bool, true, false, ap, sym, refl, arith, ◌∙◌}
use mathlib.Core.List.{append_assoc, append-nil}
use mathlib.Core.Logic.{⊎_elim}
use Rattle.std.proofs.lemmas.Bool.{cases_lt, leb-true, true≢false}
use Rattle.std.proofs.lemmas.Bool.Decides.{nat_tests}
use Rattle.std.proofs.lemmas.Fmt.{decimal_digit, decimal_step}
use Rattle.std.specs.Fmt.{char_count, format_spec, padded_integral, styled_decimal}
use Rattle.std.specs.Prelude.{decimal, codes, ◌&&◌, ◌==◌, if◌then◌else◌}
use Rattle.ent_values.specs.Calendar.{days_of_month, is_date, is_leap_year, is_time}
use Rattle.ent_values.specs.proofs_only.Clock.{shown}
use Rattle.ent_values.specs.Writing.{period_text, two_digits}

-- the decimals of numbers of one, two, three and four digits
decimal_two : (n : ℕ) → 10 ≤ n → n < 100 → decimal n ≡ (48 + n / 10) ∷ (48 + n % 10) ∷ []
decimal_two n low high = decimal_step n low (omega arith) ∙ ap (λ front. front ++ (48 + n % 10) ∷ []) (decimal_digit (n / 10) (omega arith))

decimal_three : (n : ℕ) → 100 ≤ n → n < 1000 → decimal n ≡ (48 + n / 10 / 10) ∷ (48 + n / 10 % 10) ∷ (48 + n % 10) ∷ []
decimal_three n low high = decimal_step n (omega arith) (omega arith) ∙ ap (λ front. front ++ (48 + n % 10) ∷ []) (decimal_two (n / 10) (omega arith) (omega arith))

decimal_four : (n : ℕ) → 1000 ≤ n → n < 10000 → decimal n ≡ (48 + n / 10 / 10 / 10) ∷ (48 + n / 10 / 10 % 10) ∷ (48 + n / 10 % 10) ∷ (48 + n % 10) ∷ []
decimal_four n low high = decimal_step n (omega arith) (omega arith) ∙ ap (λ front. front ++ (48 + n % 10) ∷ []) (decimal_three (n / 10) (omega arith) (omega arith))

-- what `{:02}` writes of a number below 100
two_places : (n : ℕ) → n < 100 → padded_integral (format_spec 32 0 4 2 (2 ^ 64 - 1)) false [] (decimal n) ≡ two_digits n
unfolding padded_integral char_count
two_places n small = ⊎_elim
    (λ one. let high : n / 10 ≡ 0 = omega arith in let low : n % 10 ≡ n = omega arith in rw (decimal_digit n one, high, low))
    (λ more. rw (decimal_two n more small))
    (cases_lt n 10)

four_by : (n : ℕ) (a b c d : ℕ) → n / 100 / 10 ≡ a → n / 100 % 10 ≡ b → n % 100 / 10 ≡ c → n % 100 % 10 ≡ d → (48 + a) ∷ (48 + b) ∷ (48 + c) ∷ (48 + d) ∷ [] ≡ two_digits (n / 100) ++ two_digits (n % 100)
four_by n a b c d e f g h = rw (e, f, g, h) refl

-- what `{:04}` writes of a number below 10000
four_places : (n : ℕ) → n < 10000 → padded_integral (format_spec 32 0 4 4 (2 ^ 64 - 1)) false [] (decimal n) ≡ two_digits (n / 100) ++ two_digits (n % 100)
unfolding padded_integral char_count
four_places n small = ⊎_elim
    (λ one. rw (decimal_digit n one) (four_by n 0 0 0 n (omega arith) (omega arith) (omega arith) (omega arith)))
    (λ two. ⊎_elim
    (λ below. rw (decimal_two n two below) (four_by n 0 0 (n / 10) (n % 10) (omega arith) (omega arith) (omega arith) (omega arith)))
    (λ three. ⊎_elim
    (λ below. rw (decimal_three n three below) (four_by n 0 (n / 10 / 10) (n / 10 % 10) (n % 10) (omega arith) (omega arith) (omega arith) (omega arith)))
    (λ four. rw (decimal_four n four small) (four_by n (n / 10 / 10 / 10) (n / 10 / 10 % 10) (n / 10 % 10) (n % 10) (omega arith) (omega arith) (omega arith) (omega arith)))
    (cases_lt n 1000))
    (cases_lt n 100))
    (cases_lt n 10)

pub styled_two : (read n : ℕ) → read ≡ n → n < 100 → styled_decimal (format_spec 32 0 4 2 (2 ^ 64 - 1)) read ≡ two_digits n
styled_two read n same small = rw same (two_places n small)

pub styled_four : (read n : ℕ) → read ≡ n → n < 10000 → styled_decimal (format_spec 32 0 4 4 (2 ^ 64 - 1)) read ≡ two_digits (n / 100) ++ two_digits (n % 100)
styled_four read n same small = rw same (four_places n small)

-- the parts of a date are small

both : (a b : Bool) → (a && b) ≡ true → (a ≡ true) × (b ≡ true)
both true b e = (refl, e)
both false b e = absurd (true≢false (sym e))

either_le : (b : Bool) (m n most : ℕ) → m ≤ most → n ≤ most → (if b then m else n) ≤ most
either_le true m n most p q = p
either_le false m n most p q = q

days_le : (year month : ℕ) → days_of_month year month ≤ 31
days_le year month = either_le (month == 2) _ _ 31 (either_le (is_leap_year year) 29 28 31 (omega arith) (omega arith)) (either_le _ 30 31 31 (omega arith) (omega arith))

small_parts : (year month day most : ℕ) → year ≤ 9999 → month ≤ 12 → day ≤ most → most ≤ 31 → (year < 10000) × (month < 100) × (day < 100)
small_parts year month day most y m d up = (omega (arith, y), omega (arith, m), omega (arith, d, up))

pub date_small : (year month day : ℕ) → is_date year month day ≡ true → (year < 10000) × (month < 100) × (day < 100)
date_small year month day real =
    let e = both _ _ real in
    let d = both _ _ e.0 in
    let c = both _ _ d.0 in
    let b = both _ _ c.0 in
    let a = both _ _ b.0 in
    small_parts year month day (days_of_month year month) (leb-true year 9999 a.1) (leb-true month 12 c.1)
    (leb-true day (days_of_month year month) e.1) (days_le year month)

-- and so are those of a time
pub time_small : (hour minute second : ℕ) → is_time hour minute second ≡ true → (hour < 100) × (minute < 100) × (second < 100)
time_small hour minute second real =
    let parts = shown hour minute second real in (omega (arith, parts.0), omega (arith, parts.1), omega (arith, parts.2))

-- the months of a duration as text

positive : (n : ℕ) → 0 < n → (n == 0) ≡ false
positive n h = grind (arith, nat_tests)

pub months_alone : (n : ℕ) → n / 12 ≡ 0 → codes "P" ++ (decimal (n % 12) ++ codes "M") ≡ period_text n
months_alone zero h = rw (decimal_digit 0 (omega arith)) refl
months_alone (suc n) h =
    let rest = positive (suc n % 12) (omega (arith, h)) in
    rw (positive (suc n) (omega arith), h, rest) refl

pub years_alone : (n : ℕ) → (n / 12 ≡ 0 → ⊥) → n % 12 ≡ 0 → codes "P" ++ (decimal (n / 12) ++ codes "Y") ≡ period_text n
years_alone n some none =
    rw (positive n (omega (arith, some)), positive (n / 12) (omega (arith, some)), none)
    (ap (λ text. codes "P" ++ text) (sym (append-nil (decimal (n / 12) ++ codes "Y"))))

pub years_and_months : (n : ℕ) → (n / 12 ≡ 0 → ⊥) → (n % 12 ≡ 0 → ⊥) → codes "P" ++ (decimal (n / 12) ++ (codes "Y" ++ (decimal (n % 12) ++ codes "M"))) ≡ period_text n
years_and_months n some rest =
    rw (positive n (omega (arith, some)), positive (n / 12) (omega (arith, some)), positive (n % 12) (omega (arith, rest)))
    (ap (λ text. codes "P" ++ text) (sym (append_assoc (decimal (n / 12)) (codes "Y") (decimal (n % 12) ++ codes "M"))))
