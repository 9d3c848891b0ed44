-- Texts that need no escape.
use Rattle.std.proofs.Common.{◌≡◌, ℕ, ◌≤◌, Bool, true, false, not, ◌||◌, ◌==◌, List, [], ◌∷◌, ◌++◌, length, drop, refl, sym, ap, ◌∙◌, drop_of_length-le}
use Rattle.std.proofs.lemmas.Bool.{eqb-false, ltb-false, or_parts}
use Rattle.std.specs.Bool.{OnTrue}
use Rattle.std.specs.List.{list_any}
use Rattle.json.specs.Print.{escape}
use Rattle.json.specs.Run.{is_stop}
use Rattle.json.proofs.Printed.Strings.{escape_byte_plain}

-- no byte is odd
pub no_stop : (xs : List ℕ) → list_any is_stop xs ≡ false → escape xs ≡ xs
no_stop [] none = refl
no_stop (x ∷ xs) none =
    let parts = or_parts (is_stop x) (list_any is_stop xs) none in
    let tests = or_parts ((x == 34) || (x == 92)) _ parts.0 in
    let quotes = or_parts (x == 34) (x == 92) tests.0 in
    let rest = no_stop xs parts.1 in
    λ i. escape_byte_plain x (eqb-false x 34 quotes.0) (eqb-false x 92 quotes.1) (ltb-false x 32 tests.1) i ++ rest i

-- all were looked at
pub looked : (xs : List ℕ) (i : ℕ) (odd : Bool) → length xs ≤ i → (odd || list_any is_stop (drop i xs)) ≡ list_any is_stop xs → OnTrue (not odd) (escape xs ≡ xs)
looked xs i true all h = tt
looked xs i false all h = no_stop xs (sym h ∙ ap (list_any is_stop) (drop_of_length-le xs all))
