-- The texts of versions and of patterns, and that they read back.
use Rattle.std.proofs.Common.{◌≡◌, ℕ, ◌==◌, ◌<◌, ◌≤◌, ◌^◌, List, [], ◌∷◌, length, lit<, Bool, true, false, ◌&&◌, bytes_eq, nat_lt, nat_le, Some, refl, arith}
use Rattle.std.specs.Char.{is_ascii_digit}
use Rattle.std.specs.Fmt.{decimal}
use Rattle.std.specs.List.{list_all, All}
use Rattle.std.proofs.lemmas.Bool.{and_parts}
use Rattle.std.proofs.lemmas.Bool.Decides.{nat_tests}
use Rattle.std.proofs.lemmas.Fmt.{digits_decimal, digits_value-decimal, decimal_nonempty, length-decimal-le}
use Rattle.std.proofs.lemmas.List.Elements.{All-nil, All-cons}
use Rattle.ent_policy.proofs.Dotted.{dotted_back}
use Rattle.ent_policy.proofs.Numbers.{decimal_digits}
use Rattle.ent_policy.specs.Patterns.{is_part, more_is_last, part_of, part_text, pattern_of, PatternsReadBack}
use Rattle.ent_policy.specs.Versions.{is_number, number_of, version_of, TextReadsBack}
use Rattle.ent_policy.specs.declared.pattern.PatternPart.{PatternPart}
use Rattle.ent_policy.specs.declared.pattern.PatternPart.TheVariants.{Any, More, Number}

no_dot : (b : ℕ) → is_ascii_digit b ≡ true → (b == 46) ≡ false
no_dot b h = grind (arith, nat_tests)

no_dots : (ds : List ℕ) → list_all is_ascii_digit ds ≡ true → All (λ b. (b == 46) ≡ false) ds
no_dots [] h = All-nil (λ b. (b == 46) ≡ false)
no_dots (b ∷ ds) h =
    let p = and_parts (is_ascii_digit b) (list_all is_ascii_digit ds) h in
    All-cons (λ b. (b == 46) ≡ false) b ds (no_dot b p.0) (no_dots ds p.1)

fits : (n : ℕ) → nat_lt n 1000000000 ≡ true → n < 2 ^ 64
fits n h =
    let small : n < 10 ^ 9 = grind (arith, nat_tests) in
    omega arith

-- the text of a number has no dot
pub decimal_whole : (n : ℕ) → nat_lt n 1000000000 ≡ true → All (λ b. (b == 46) ≡ false) (decimal n)
decimal_whole n h = no_dots (decimal n) (digits_decimal decimal_digits n (fits n h))

three : (a b d : Bool) → a ≡ true → b ≡ true → d ≡ true → (a && b && d) ≡ true
three a b d p q r = rw (p, q, r) refl

written_number : (n : ℕ) → nat_lt n 1000000000 ≡ true → is_number (decimal n) ≡ true
written_number n h =
    let small : n < 10 ^ 9 = grind (arith, nat_tests) in
    let some : 0 < length (decimal n) = decimal_nonempty n (fits n h) in
    let few : length (decimal n) ≤ 9 = length-decimal-le 9 n (omega arith) small (fits n h) in
    let digits = digits_decimal decimal_digits n (fits n h) in
    three (nat_lt 0 (length (decimal n))) (nat_le (length (decimal n)) 9) (list_all is_ascii_digit (decimal n)) (grind (arith, nat_tests)) (grind (arith, nat_tests)) digits

-- the text of a number reads as that number
pub number_back : (n : ℕ) → nat_lt n 1000000000 ≡ true → number_of (decimal n) ≡ Some n
number_back n h = rw (written_number n h, digits_value-decimal decimal_digits n (fits n h)) refl

pub reads_back : TextReadsBack
unfolding version_of
reads_back numbers h = dotted_back number_of decimal (λ n. nat_lt n 1000000000) number_back decimal_whole numbers h

-- ---- patterns

no_digit : (b : ℕ) (sign : ℕ) → sign < 48 → is_ascii_digit b ≡ true → (b == sign) ≡ false
no_digit b sign below h = grind (arith, nat_tests)

-- digits are no sign
no_sign : (ds : List ℕ) (sign : ℕ) → sign < 48 → list_all is_ascii_digit ds ≡ true → bytes_eq ds (sign ∷ []) ≡ false
no_sign [] sign below h = refl
no_sign (b ∷ ds) sign below h =
    let digit = (and_parts (is_ascii_digit b) (list_all is_ascii_digit ds) h).0 in
    rw (no_digit b sign below digit) refl

part_back : (part : PatternPart) → is_part part ≡ true → part_of (part_text part) ≡ Some part
part_back Any h = refl
part_back More h = refl
part_back (Number n) h =
    let digits = digits_decimal decimal_digits n (fits n h) in
    rw (no_sign (decimal n) 42 (lit< tt) digits, no_sign (decimal n) 43 (lit< tt) digits, number_back n h) refl

-- the text of a part has no dot
part_whole : (part : PatternPart) → is_part part ≡ true → All (λ b. (b == 46) ≡ false) (part_text part)
part_whole Any h = All-cons (λ b. (b == 46) ≡ false) 42 [] refl (All-nil (λ b. (b == 46) ≡ false))
part_whole More h = All-cons (λ b. (b == 46) ≡ false) 43 [] refl (All-nil (λ b. (b == 46) ≡ false))
part_whole (Number n) h = decimal_whole n h

pub patterns_read_back : PatternsReadBack
unfolding pattern_of
patterns_read_back parts h =
    let p = and_parts (nat_lt 0 (length parts) && nat_le (length parts) 8 && list_all is_part parts) (more_is_last parts) h in
    rw (dotted_back part_of part_text is_part part_back part_whole parts p.0, p.1) refl
