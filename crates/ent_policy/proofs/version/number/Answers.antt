use Rattle.std.proofs.Common.{◌≡◌, ℕ, ◌<◌, ◌≤◌, ◌^◌, List, length, Bool, true, false, ◌&&◌, nat_lt, nat_le, Option, Result, refl, sym, ap, ◌∙◌, arith}
use Rattle.std.specs.Char.{is_ascii_digit}
use Rattle.std.specs.List.{list_all}
use Rattle.std.specs.Result.{result_ok}
use Rattle.std.specs.Str.Parse.{digits_value, ParsesUnsigned}
use Rattle.std.proofs.lemmas.Bool.Decides.{nat_tests}
use Rattle.std.proofs.lemmas.Str.Parse.{parse_gives, digits_value_short}
use Rattle.ent_policy.proofs.Numbers.{decimal_digits}
use Rattle.ent_policy.specs.Versions.{is_number, number_of}
use Rattle.ent_policy.proofs.version.number.Goals as goal

parts : (a b d : Bool) → (a && b && d) ≡ true → (a ≡ true) × (b ≡ true) × (d ≡ true)
parts true true true h = (refl, refl, refl)
parts true true false h = absurd cc
parts true false d h = absurd cc
parts false b d h = absurd cc

number_read : {E : Type 0} (piece : List ℕ) (r : Result ℕ E) (o : Option ℕ) → is_number piece ≡ true → ParsesUnsigned 32 10 piece r → o ≡ result_ok r → o ≡ number_of piece
number_read piece r o h p e =
    let tested = parts (nat_lt 0 (length piece)) (nat_le (length piece) 9) (list_all is_ascii_digit piece) h in
    let some : 0 < length piece = grind (arith, nat_tests) in
    let short : length piece ≤ 9 = grind (arith, nat_tests) in
    let small : digits_value 10 piece < 2 ^ 32 = omega (arith, digits_value_short decimal_digits piece 9 tested.2 short) in
    rw h (e ∙ ap result_ok (parse_gives decimal_digits 32 piece r p tested.2 some small))

pub returns : goal.returns
returns c = number_read c.args.piece.now c.parse.result c.ok.result (sym c.is_number.ensures ∙ c.if-not-is_number.false) c.parse.ensures.value.0 c.ok.ensures.value
