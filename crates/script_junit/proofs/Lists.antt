-- Characters written one after the other, and tests that are counted.
use Rattle.std.proofs.Common.{◌≡◌, ◌<◌, ◌+◌, ◌++◌, ℕ, List, [], ◌∷◌, length, take, get_or, Bool, true, false, cond, not, IsUtf8, chars, encode_utf8, refl, sym, ap, ◌∙◌, arith, append_assoc, append-nil}
use Rattle.std.specs.List.{count_by, flat_map}
use Rattle.std.proofs.lemmas.List.{take_more}
use Rattle.std.proofs.lemmas.List.Sums.{sum_by_push}
use Rattle.std.proofs.lemmas.Str.{chars-nil, chars_past_char}
use Rattle.script_junit.specs.Escaped.{escaped_char}
use Rattle.script_junit.specs.Junit.{failed}
use Rattle.script_junit.specs.declared.result.TestCase.{TestCase}

-- one more character is written
pub written_more : (rest next : List ℕ) (c : ℕ) (now new all : List ℕ) → IsUtf8 rest → rest ≡ encode_utf8 c ++ next → new ≡ now ++ escaped_char c
    → now ++ flat_map escaped_char (chars rest) ≡ all → new ++ flat_map escaped_char (chars next) ≡ all
written_more rest next c now new all text parts is left =
    ap (λ bytes. bytes ++ flat_map escaped_char (chars next)) is
    ∙ append_assoc now (escaped_char c) (flat_map escaped_char (chars next))
    ∙ ap (λ cs. now ++ flat_map escaped_char cs) (sym (chars_past_char rest next c text parts)) ∙ left

-- no character is left
pub written_all : (rest now all : List ℕ) → length rest ≡ 0 → now ++ flat_map escaped_char (chars rest) ≡ all → now ≡ all
written_all [] now all none left = sym (append-nil now) ∙ ap (λ cs. now ++ flat_map escaped_char cs) (sym chars-nil) ∙ left
written_all (byte ∷ rest) now all none left = absurd (omega (arith, none))

-- one test more is counted
counted : (cases : List TestCase) (c : TestCase) → failed (cases ++ c ∷ []) ≡ failed cases + cond (not c.passed) 1 0
counted cases c = sum_by_push (λ x. cond (not x.passed) 1 0) cases c

counted_by : (cases : List TestCase) (i n : ℕ) (c : TestCase) (b : Bool) → i < length cases → c ≡ get_or cases i c → c.passed ≡ b
    → n ≡ failed (take i cases) → n + cond (not b) 1 0 ≡ failed (take (i + 1) cases)
counted_by cases i n c b lt is so count =
    ap (λ m. m + cond (not b) 1 0) count ∙ ap (λ p. failed (take i cases) + cond (not p) 1 0) (sym so)
    ∙ sym (counted (take i cases) c) ∙ ap (λ x. failed (take i cases ++ x ∷ [])) is ∙ ap failed (sym (take_more cases i c lt))

-- one that failed
pub counted_more : (cases : List TestCase) (i n : ℕ) (c : TestCase) → i < length cases → c ≡ get_or cases i c → c.passed ≡ false
    → n ≡ failed (take i cases) → n + 1 ≡ failed (take (i + 1) cases)
counted_more cases i n c lt is so count = counted_by cases i n c false lt is so count

-- one that passed
pub counted_same : (cases : List TestCase) (i n : ℕ) (c : TestCase) → i < length cases → c ≡ get_or cases i c → c.passed ≡ true
    → n ≡ failed (take i cases) → n ≡ failed (take (i + 1) cases)
counted_same cases i n c lt is so count = let more = counted_by cases i n c true lt is so count in omega (arith, more)

-- a piece is put behind a text, and then the rest is
pub piece_then : (before piece rest after end : List ℕ) → after ≡ before ++ piece → end ≡ after ++ rest → end ≡ before ++ (piece ++ rest)
piece_then before piece rest after end is more = more ∙ ap (λ text. text ++ rest) is ∙ append_assoc before piece rest
