-- What `parse` of an integer reads, in the words of the lexical forms.
use Rattle.std.proofs.Common.{◌≡◌, ℕ, ℤ, List, Bool, true, false, Some, None, ap, sym, refl, rules, length}
use Rattle.std.proofs.lemmas.Bool.{ltb-true, lt-ltb, true≢false}
use Rattle.std.proofs.lemmas.Str.Parse.{IsNumeralModel, numerals_by_value}
use Rattle.std.specs.Char.{is_ascii_digit}
use Rattle.std.specs.Int.{w64}
use Rattle.std.specs.List.{list_all}
use Rattle.std.specs.Prelude.{FitsSigned, pos, negsuc, Result, Ok, Err, nat_lt, ◌&&◌}
use Rattle.std.specs.Result.{result_ok}
use Rattle.std.specs.Str.Parse.{ParsesSigned, digits_value, signed_digits_value, without_leading_sign}
use Rattle.ent_values.specs.Reading.{integer_of, is_within_64_bits}

-- digits alone, as std names them
pub digits_model : IsNumeralModel (λ ds. list_all is_ascii_digit ds ≡ true) (digits_value 10)
digits_model = numerals_by_value _ (search rules)

pub fits : (z : ℤ) → is_within_64_bits z ≡ true → FitsSigned w64 z
fits (pos n) e = record { sfits = ltb-true _ _ e }
fits (negsuc n) e = record { sfits = ltb-true _ _ e }

pub fits_back : (z : ℤ) → FitsSigned w64 z → is_within_64_bits z ≡ true
fits_back (pos n) h = lt-ltb _ _ h.sfits
fits_back (negsuc n) h = lt-ltb _ _ h.sfits

-- the whole test of an integer's text
abbrev pub is_integer : List ℕ → Bool
is_integer text =
    nat_lt 0 (length (without_leading_sign text)) && list_all is_ascii_digit (without_leading_sign text)
    && is_within_64_bits (signed_digits_value 10 text)

pub both : (a b : Bool) → (a && b) ≡ true → (a ≡ true) × (b ≡ true)
both true b e = (refl, e)
both false b e = absurd (true≢false (sym e))

pub integer_read : {E : Type 0} (text : List ℕ) (r : Result ℤ E) → ParsesSigned w64 10 text r → result_ok r ≡ integer_of text
unfolding integer_of
integer_read text (Ok z) h =
    let digits = without_leading_sign text in
    rw (lt-ltb 0 (length digits) h.0.0.0, digits_model.from digits h.0.0.1, fits_back (signed_digits_value 10 text) h.0.1) (ap Some h.1)
integer_read text (Err e) h = go (is_integer text) refl
  where
    go : (b : Bool) → is_integer text ≡ b → None ≡ integer_of text
    go false t = rw t refl
    go true t =
        let digits = without_leading_sign text in
        let outer = both _ _ t in
        let inner = both _ _ outer.0 in
        absurd (h ((ltb-true _ _ inner.0, digits_model.to digits inner.1), fits _ outer.1))
