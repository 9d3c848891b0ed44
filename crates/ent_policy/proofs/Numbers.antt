-- The numbers of a version.
use Rattle.std.proofs.Common.{◌≡◌, ℕ, ◌<◌, ◌≤◌, ◌^◌, List, length, Bool, true, false, cond, ◌&&◌, nat_lt, nat_le, Some, None, refl, subst, arith, rules}
use Rattle.std.specs.Char.{is_ascii_digit}
use Rattle.std.specs.List.{list_all}
use Rattle.std.specs.Str.Parse.{digits_value}
use Rattle.std.proofs.lemmas.Bool.{and_parts}
use Rattle.std.proofs.lemmas.Bool.Decides.{nat_tests}
use Rattle.std.proofs.lemmas.Str.Parse.{IsNumeralModel, digits_value_short, numerals_by_value}
use Rattle.ent_policy.proofs.Dotted.{dotted_kept}
use Rattle.ent_policy.specs.Versions.{is_number, is_version, number_of, version_of}

-- std's lemmas on numerals, of texts whose bytes are decimal digits
pub decimal_digits : IsNumeralModel (λ ds. list_all is_ascii_digit ds ≡ true) (digits_value 10)
decimal_digits = numerals_by_value _ (search rules)

accepted : (b : Bool) (v n : ℕ) → cond b (Some v) None ≡ Some n → (b ≡ true) × (v ≡ n)
accepted true v n h = (refl, cc)
accepted false v n h = absurd cc

small_value : (piece : List ℕ) → is_number piece ≡ true → nat_lt (digits_value 10 piece) 1000000000 ≡ true
small_value piece h =
    let p = and_parts (nat_lt 0 (length piece) && nat_le (length piece) 9) (list_all is_ascii_digit piece) h in
    let short : nat_le (length piece) 9 ≡ true = (and_parts (nat_lt 0 (length piece)) (nat_le (length piece) 9) p.0).1 in
    let few : length piece ≤ 9 = grind (arith, nat_tests) in
    let below : digits_value 10 piece < 10 ^ 9 = digits_value_short decimal_digits piece 9 p.1 few in
    grind (arith, nat_tests)

-- a number has at most 9 digits
pub number_small : (piece : List ℕ) (n : ℕ) → number_of piece ≡ Some n → nat_lt n 1000000000 ≡ true
number_small piece n h =
    let p = accepted (is_number piece) (digits_value 10 piece) n h in
    subst (λ (m : ℕ). nat_lt m 1000000000 ≡ true) p.1 (small_value piece p.0)

-- what is read is a version
pub is_version_of : (text v : List ℕ) → version_of text ≡ Some v → is_version v ≡ true
unfolding version_of
is_version_of text v h = dotted_kept number_of (λ n. nat_lt n 1000000000) number_small text v h
