-- A duration of more years than can be read: no text of it is read.
use mathlib.Core.Logic.{⊎_elim}
use Rattle.std.proofs.Common.{◌≡◌, ◌<◌, ◌≤◌, ◌+◌, ◌/◌, ◌%◌, ◌^◌, ℕ, ℤ, zero, suc, pos, negsuc, List, [], ◌∷◌, ◌++◌, Bool, true, false, Option, Some, None, length, length-append, take, drop, arith, refl, sym, ap, ◌∙◌}
use Rattle.std.proofs.lemmas.Bool.{cases_lt, le-leb, le-ltb, lt-ltb}
use Rattle.std.proofs.lemmas.Bool.Decides.{nat_tests}
use Rattle.std.proofs.lemmas.List.{take_at}
use Rattle.std.specs.Char.{is_ascii_digit}
use Rattle.std.specs.Fmt.{digit_glyph, digits, digits_onto}
use Rattle.std.specs.List.{list_all, prefix_len}
use Rattle.std.specs.Prelude.{◌==◌, not, bytes_eq, codes, decimal, if◌then◌else◌, int_lt, nat_le, position, unsigned_abs}
use Rattle.ent_values.proofs.Numerals.{both}
use Rattle.ent_values.proofs.Texts.{years_alone, years_and_months}
use Rattle.ent_values.specs.Reading.{count_of, duration_of, months_with_years_at, period_of, years_part_of}
use Rattle.ent_values.specs.Writing.{duration_text, period_text}

-- ---- digits

onto_longer : (k n : ℕ) (acc : List ℕ) → length acc ≤ length (digits_onto k 10 false n acc)
onto_longer zero n acc = omega arith
onto_longer (suc k) n acc = by (n / 10 == 0) (onto_longer k (n / 10) (digit_glyph false (n % 10) ∷ acc))
  where
    by : (b : Bool) → suc (length acc) ≤ length (digits_onto k 10 false (n / 10) (digit_glyph false (n % 10) ∷ acc))
        → length acc ≤ length (if b then digit_glyph false (n % 10) ∷ acc else digits_onto k 10 false (n / 10) (digit_glyph false (n % 10) ∷ acc))
    by true more = omega arith
    by false more = omega (arith, more)

digits_long : (j k n : ℕ) (acc : List ℕ) → 10 ^ j ≤ n → j < k → j + 1 + length acc ≤ length (digits_onto k 10 false n acc)
digits_long j zero n acc large less = absurd (omega (arith, less))
digits_long zero (suc k) n acc large less = by (n / 10 == 0) (onto_longer k (n / 10) (digit_glyph false (n % 10) ∷ acc))
  where
    by : (b : Bool) → suc (length acc) ≤ length (digits_onto k 10 false (n / 10) (digit_glyph false (n % 10) ∷ acc))
        → 1 + length acc ≤ length (if b then digit_glyph false (n % 10) ∷ acc else digits_onto k 10 false (n / 10) (digit_glyph false (n % 10) ∷ acc))
    by true more = omega arith
    by false more = omega (arith, more)
digits_long (suc j) (suc k) n acc large less =
    let smaller : 10 ^ j ≤ n / 10 = omega (arith, large) in
    by (n / 10 == 0) refl smaller (digits_long j k (n / 10) (digit_glyph false (n % 10) ∷ acc) smaller (omega (arith, less)))
  where
    by : (b : Bool) → (n / 10 == 0) ≡ b → 10 ^ j ≤ n / 10 → j + 1 + suc (length acc) ≤ length (digits_onto k 10 false (n / 10) (digit_glyph false (n % 10) ∷ acc))
        → suc j + 1 + length acc ≤ length (if b then digit_glyph false (n % 10) ∷ acc else digits_onto k 10 false (n / 10) (digit_glyph false (n % 10) ∷ acc))
    by true none smaller more = absurd (positive j (n / 10) smaller none)
      where
        positive : (j m : ℕ) → 10 ^ j ≤ m → (m == 0) ≡ true → ⊥
        positive zero m le e = grind (arith, nat_tests)
        positive (suc j) m le e = positive j m (omega (arith, le)) e
    by false some smaller more = omega (arith, more)

-- a number of more than 9 digits is written by more than 9
decimal_long : (n : ℕ) → 1000000000 ≤ n → 10 ≤ length (decimal n)
unfolding digits
decimal_long n large = omega (arith, digits_long 9 64 n [] large (omega arith))

glyph_digit : (d : ℕ) → d < 10 → is_ascii_digit (digit_glyph false d) ≡ true
glyph_digit d small = grind (arith, nat_tests)

onto_digits : (k n : ℕ) (acc : List ℕ) → list_all is_ascii_digit acc ≡ true → list_all is_ascii_digit (digits_onto k 10 false n acc) ≡ true
onto_digits zero n acc h = h
onto_digits (suc k) n acc h =
    let one : list_all is_ascii_digit (digit_glyph false (n % 10) ∷ acc) ≡ true = rw (glyph_digit (n % 10) (omega arith)) h in
    by (n / 10 == 0) one (onto_digits k (n / 10) (digit_glyph false (n % 10) ∷ acc) one)
  where
    by : (b : Bool) → list_all is_ascii_digit (digit_glyph false (n % 10) ∷ acc) ≡ true
        → list_all is_ascii_digit (digits_onto k 10 false (n / 10) (digit_glyph false (n % 10) ∷ acc)) ≡ true
        → list_all is_ascii_digit (if b then digit_glyph false (n % 10) ∷ acc else digits_onto k 10 false (n / 10) (digit_glyph false (n % 10) ∷ acc)) ≡ true
    by true one more = one
    by false one more = more

all_digits : (n : ℕ) → list_all is_ascii_digit (decimal n) ≡ true
unfolding digits
all_digits n = onto_digits 64 n [] refl

-- more than 9 digits write no count
no_count : (text : List ℕ) → 10 ≤ length text → count_of text ≡ None
unfolding count_of
no_count text long = rw (le-leb 1 (length text) (omega (arith, long)), too_many (length text) long) refl
  where
    too_many : (n : ℕ) → 10 ≤ n → nat_le n 9 ≡ false
    too_many n h = grind (arith, nat_tests)

-- ---- periods

-- no digit is a `Y`
no_year : (c : ℕ) → is_ascii_digit c ≡ true → (c == 89) ≡ false
no_year c digit = grind (arith, nat_tests)

before_years : (text rest : List ℕ) → list_all is_ascii_digit text ≡ true → prefix_len (λ byte. not (byte == 89)) (text ++ (codes "Y" ++ rest)) ≡ length text
before_years [] rest e = refl
before_years (d ∷ ds) rest e =
    let parts = both _ _ e in
    rw (no_year d parts.0) (omega (arith, before_years ds rest parts.1))

abbrev read : List ℕ → Option ℕ
read text = months_with_years_at text (position (λ byte. byte == 89) text)

read_years : (y : ℕ) (rest : List ℕ) → (more : List ℕ) × (read (decimal y ++ (codes "Y" ++ rest)) ≡ years_part_of (decimal y) more)
read_years y rest =
    let text = decimal y in
    let at = before_years text rest (all_digits y) in
    let inside : length text < length (text ++ (codes "Y" ++ rest)) = omega (arith, length-append text (codes "Y" ++ rest)) in
    (drop (length text + 1) (text ++ (codes "Y" ++ rest)), rw (at, lt-ltb (length text) (length (text ++ (codes "Y" ++ rest))) inside, take_at text (codes "Y" ++ rest) (length text) refl) refl)

no_years : (y : ℕ) (rest : List ℕ) → 1000000000 ≤ y → period_of (codes "P" ++ (decimal y ++ (codes "Y" ++ rest))) ≡ None
unfolding period_of years_part_of
no_years y rest many = let r = read_years y rest in r.1 ∙ rw (no_count (decimal y) (decimal_long y many)) refl

no_period : (n : ℕ) → 1000000000 ≤ n / 12 → period_of (period_text n) ≡ None
no_period n many =
    let years : n / 12 ≡ 0 → ⊥ = λ e. omega (arith, e, many) in ⊎_elim
    (λ none. ap period_of (sym (years_alone n years (omega arith))) ∙ no_years (n / 12) [] many)
    (λ some. let months : n % 12 ≡ 0 → ⊥ = λ e. omega (arith, e, some) in
    ap period_of (sym (years_and_months n years months)) ∙ no_years (n / 12) (decimal (n % 12) ++ codes "M") many)
    (cases_lt (n % 12) 1)

no_sign : (n : ℕ) → bytes_eq (take 1 (period_text n)) (codes "-") ≡ false
no_sign n = go (n == 0) refl
  where
    go : (b : Bool) → (n == 0) ≡ b → bytes_eq (take 1 (period_text n)) (codes "-") ≡ false
    go true e = rw e refl
    go false e = rw e refl

no_duration : (months : ℤ) → 1000000000 ≤ unsigned_abs months / 12 → duration_of (duration_text months) ≡ None
unfolding duration_of duration_text
no_duration (pos n) many =
    let plus : int_lt (pos n) (pos 0) ≡ false = le-ltb n 0 (omega arith) in
    rw (plus, no_sign n, no_period n many) refl
no_duration (negsuc n) many = rw (no_period (suc n) many) refl

-- a duration whose text is read has few years
pub few_years : (months read : ℤ) → duration_of (duration_text months) ≡ Some read → unsigned_abs months / 12 < 1000000000
few_years months read h = ⊎_elim (λ few. few) (λ many. absurd (none_read (no_duration months many))) (cases_lt (unsigned_abs months / 12) 1000000000)
  where
    none_read : duration_of (duration_text months) ≡ None → ⊥
    none_read e = let clash : None ≡ Some read = sym e ∙ h in absurd cc
