-- Pieces of lines, and fronts of what is written.
use Rattle.std.proofs.Common.{◌≡◌, ℕ, ◌+◌, ◌-◌, ◌<◌, ◌≤◌, min, List, [], ◌∷◌, ◌++◌, length, take, get_or, Option, Some, None, IfSome, OnSome, sym, ap, subst, ◌∙◌, arith, take_all, take-take, append-nil, inl, inr}
use Rattle.std.proofs.lemmas.Bool.{cases_lt}
use Rattle.std.proofs.Math.Seq.{take-append-add}
use Rattle.std.proofs.lemmas.List.{take_more, length-take}
use Rattle.std.specs.Io.KnownBytes.{Keeps, IsAtEnd}
use Rattle.ent_wire.specs.Lines.{ended, line_limit}
use Rattle.ent_line.specs.proofs_only.Pieces.{kept_of}

take_twice : (n m : ℕ) (xs : List ℕ) → take n (take m xs) ≡ take (min n m) xs
take_twice n m xs = elim (cases_lt n m) [
  | inl lt ↦ take-take n m xs (omega arith) ∙ ap (λ k. take k xs) (omega arith)
  | inr le ↦ take_all n (take m xs) (omega (arith, length-take m xs)) ∙ ap (λ k. take k xs) (omega arith)
]

pub kept_line : (old a : List ℕ) (end kept : ℕ) → length old ≤ line_limit + 1 → kept ≡ min (line_limit + 1 - length old) end → old ++ take kept a ≡ kept_of (old ++ take end a)
kept_line old a end kept le is =
    let room : length old + (line_limit + 1 - length old) ≡ line_limit + 1 = omega arith in
    let whole : kept_of (old ++ take end a) ≡ old ++ take (line_limit + 1 - length old) (take end a) = subst (λ n. take n (old ++ take end a) ≡ old ++ take (line_limit + 1 - length old) (take end a)) room (take-append-add old (take end a) (line_limit + 1 - length old)) in
    sym (whole ∙ ap (λ t. old ++ t) (take_twice (line_limit + 1 - length old) end a ∙ ap (λ n. take n a) (sym is)))

pub kept_same : (old : List ℕ) → length old ≤ line_limit + 1 → old ≡ kept_of (old ++ [])
kept_same old le = sym (ap kept_of (append-nil old) ∙ take_all (line_limit + 1) old le)

pub through_newline : (a : List ℕ) (end : ℕ) → end < length a → get_or a end 0 ≡ 10 → take (end + 1) a ≡ ended (take end a)
through_newline a end lt is = take_more a end 0 lt ∙ ap (λ b. take end a ++ b ∷ []) is

-- the reader showed nothing, so nothing is left
pub at_end : (before after : Option (List ℕ)) (shown : List ℕ) → length shown ≡ 0 → IfSome before (λ xs. length shown ≡ 0 → xs ≡ []) → Keeps before after → OnSome before (IsAtEnd after)
at_end None after shown none ends kept = tt
at_end (Some xs) None shown none ends kept = absurd kept
at_end (Some xs) (Some ys) shown none ends kept = kept ∙ ends none
