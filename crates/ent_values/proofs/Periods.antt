-- A written duration reads back.
use mathlib.Core.List.{append_assoc}
use mathlib.Core.Logic.{⊎_elim}
use Rattle.std.proofs.Common.{◌≡◌, ◌<◌, ◌+◌, ◌-◌, ◌/◌, ◌%◌, [], ◌∷◌, ◌++◌, ℕ, ℤ, suc, List, Bool, true, false, Option, Some, ap, sym, refl, arith, length, length-append, take, drop, ◌∙◌}
use Rattle.std.proofs.lemmas.Bool.{cases_lt, le-leb, le-ltb, lt-ltb}
use Rattle.std.proofs.lemmas.Bool.Decides.{nat_tests}
use Rattle.std.proofs.lemmas.Fmt.{decimal_nonempty, digits_decimal, digits_value-decimal, length-decimal-le}
use Rattle.std.proofs.lemmas.List.{drop_at, take_at}
use Rattle.std.specs.Char.{is_ascii_digit}
use Rattle.std.specs.List.{list_all, prefix_len}
use Rattle.std.specs.Prelude.{◌==◌, not, bytes_eq, codes, decimal, int_lt, negsuc, pos, position, unsigned_abs}
use Rattle.ent_values.proofs.Numerals.{both, digits_model}
use Rattle.ent_values.proofs.Texts.{months_alone, years_alone, years_and_months}
use Rattle.ent_values.specs.Reading.{count_of, duration_of, months_part_of, months_with_years_at, period_of, years_part_of}
use Rattle.ent_values.specs.Writing.{duration_text, period_text}

count_decimal : (n : ℕ) → n < 1000000000 → count_of (decimal n) ≡ Some n
unfolding count_of
count_decimal n small =
    let some = decimal_nonempty n (omega arith) in
    let short = length-decimal-le 9 n (omega arith) small (omega arith) in
    rw (le-leb 1 (length (decimal n)) some, le-leb (length (decimal n)) 9 short, digits_decimal digits_model n (omega arith))
    (ap Some (digits_value-decimal digits_model n (omega arith)))

months_back : (m : ℕ) → m < 1000000000 → months_part_of (decimal m ++ codes "M") ≡ Some m
unfolding months_part_of
months_back m small =
    let text = decimal m in
    let long : length (text ++ codes "M") - 1 ≡ length text = omega (arith, length-append text (codes "M")) in
    rw (long, drop_at text (codes "M") (length text) refl, take_at text (codes "M") (length text) refl) (count_decimal m small)

-- no digit is a `Y`
no_year : (c : ℕ) → is_ascii_digit c ≡ true → (c == 89) ≡ false
no_year c digit = grind (arith, nat_tests)

abbrev before : List ℕ → ℕ
before text = prefix_len (λ byte. not (byte == 89)) text

before_none : (digits : List ℕ) → list_all is_ascii_digit digits ≡ true → before (digits ++ codes "M") ≡ length (digits ++ codes "M")
before_none [] e = refl
before_none (d ∷ ds) e =
    let parts = both _ _ e in
    rw (no_year d parts.0) (omega (arith, before_none ds parts.1))

before_years : (digits rest : List ℕ) → list_all is_ascii_digit digits ≡ true → before (digits ++ (codes "Y" ++ rest)) ≡ length digits
before_years [] rest e = refl
before_years (d ∷ ds) rest e =
    let parts = both _ _ e in
    rw (no_year d parts.0) (omega (arith, before_years ds rest parts.1))

abbrev read : List ℕ → Option ℕ
read text = months_with_years_at text (position (λ byte. byte == 89) text)

read_months : (m : ℕ) → m < 1000000000 → read (decimal m ++ codes "M") ≡ Some m
read_months m small =
    let digits = digits_decimal digits_model m (omega arith) in
    let all = before_none (decimal m) digits in
    rw (all, le-ltb (length (decimal m ++ codes "M")) (length (decimal m ++ codes "M")) (omega arith)) (months_back m small)

drop_past : (xs rest : List ℕ) (c : ℕ) → drop (length xs + 1) (xs ++ c ∷ rest) ≡ rest
drop_past xs rest c =
    ap (drop (length xs + 1)) (sym (append_assoc xs (c ∷ []) rest)) ∙ drop_at (xs ++ c ∷ []) rest (length xs + 1) (length-append xs (c ∷ []))

read_years : (y : ℕ) (rest : List ℕ) → y < 1000000000 → read (decimal y ++ (codes "Y" ++ rest)) ≡ years_part_of (decimal y) rest
read_years y rest small =
    let digits = digits_decimal digits_model y (omega arith) in
    let text = decimal y in
    let at = before_years text rest digits in
    let inside : length text < length (text ++ (codes "Y" ++ rest)) = omega (arith, length-append text (codes "Y" ++ rest)) in
    rw (at, lt-ltb (length text) (length (text ++ (codes "Y" ++ rest))) inside, take_at text (codes "Y" ++ rest) (length text) refl) (ap (years_part_of text) (drop_past text rest 89))

-- the months of a text behind the `P`
months_read : (n : ℕ) → n / 12 < 1000000000 → n / 12 ≡ 0 → read (decimal (n % 12) ++ codes "M") ≡ Some n
months_read n small none = read_months (n % 12) (omega arith) ∙ ap Some (omega (arith, none))

years_read : (n : ℕ) → n / 12 < 1000000000 → n % 12 ≡ 0 → read (decimal (n / 12) ++ codes "Y") ≡ Some n
unfolding years_part_of
years_read n small none =
    read_years (n / 12) [] small ∙ rw (count_decimal (n / 12) small) (ap Some (omega (arith, none)))

both_read : (n : ℕ) → n / 12 < 1000000000 → read (decimal (n / 12) ++ (codes "Y" ++ (decimal (n % 12) ++ codes "M"))) ≡ Some n
unfolding years_part_of
both_read n small =
    let rest = decimal (n % 12) ++ codes "M" in
    let some : (bytes_eq rest []) ≡ false = some_rest (decimal (n % 12)) in
    read_years (n / 12) rest small ∙ rw (count_decimal (n / 12) small, some, months_back (n % 12) (omega arith)) (ap Some (omega arith))
  where
    some_rest : (xs : List ℕ) → bytes_eq (xs ++ codes "M") [] ≡ false
    some_rest [] = refl
    some_rest (x ∷ xs) = refl

period_read : (text : List ℕ) (n : ℕ) → read text ≡ Some n → period_of (codes "P" ++ text) ≡ Some n
unfolding period_of
period_read text n e = e

period_back : (n : ℕ) → n / 12 < 1000000000 → period_of (period_text n) ≡ Some n
period_back n small = ⊎_elim
    (λ less. let none : n / 12 ≡ 0 = omega arith in
    ap period_of (sym (months_alone n none)) ∙ period_read _ n (months_read n small none))
    (λ more. let years : n / 12 ≡ 0 → ⊥ = λ e. omega (arith, e, more) in ⊎_elim
    (λ none. let zero_months : n % 12 ≡ 0 = omega arith in
    ap period_of (sym (years_alone n years zero_months)) ∙ period_read _ n (years_read n small zero_months))
    (λ some. let months : n % 12 ≡ 0 → ⊥ = λ e. omega (arith, e, some) in
    ap period_of (sym (years_and_months n years months)) ∙ period_read _ n (both_read n small))
    (cases_lt (n % 12) 1))
    (cases_lt n 12)

no_sign : (n : ℕ) → bytes_eq (take 1 (period_text n)) (codes "-") ≡ false
no_sign n = go (n == 0) refl
  where
    go : (b : Bool) → (n == 0) ≡ b → bytes_eq (take 1 (period_text n)) (codes "-") ≡ false
    go true e = rw e refl
    go false e = rw e refl

pub duration_back : (months : ℤ) → unsigned_abs months / 12 < 1000000000 → duration_of (duration_text months) ≡ Some months
unfolding duration_of duration_text
duration_back (pos n) small =
    let plus : int_lt (pos n) (pos 0) ≡ false = le-ltb n 0 (omega arith) in
    rw (plus, no_sign n, period_back n small) refl
duration_back (negsuc n) small = rw (period_back (suc n) small) refl
