-- Lists made of a range of numbers.
use Rattle.std.proofs.Common.{◌≡◌, ◌+◌, ◌++◌, ℕ, zero, suc, List, sym, ap, ◌∙◌, arith, append-nil, append_assoc, add-one}
use Rattle.std.specs.List.{flat_map, range_with_len}

shifted : {A : Type 0} (f : ℕ → List A) (a n : ℕ) → flat_map f (range_with_len a (suc n)) ≡ flat_map f (range_with_len a n) ++ f (a + n)
shifted f a zero = append-nil (f a) ∙ ap f (omega arith)
shifted f a (suc n) =
    ap (λ xs. f a ++ xs) (shifted f (a + 1) n ∙ ap (λ k. flat_map f (range_with_len (a + 1) n) ++ f k) (omega arith))
    ∙ sym (append_assoc (f a) (flat_map f (range_with_len (a + 1) n)) (f (a + suc n)))

-- what one more number adds
flat_map_range_more : {A : Type 0} (f : ℕ → List A) (n : ℕ) → flat_map f (range_with_len 0 (n + 1)) ≡ flat_map f (range_with_len 0 n) ++ f n
flat_map_range_more f n = ap (λ k. flat_map f (range_with_len 0 k)) (add-one n) ∙ shifted f 0 n ∙ ap (λ k. flat_map f (range_with_len 0 n) ++ f k) (omega arith)

-- what is behind a start after one more number
pub range_step : {A : Type 0} (f : ℕ → List A) (n : ℕ) (start old new : List A) → old ≡ start ++ flat_map f (range_with_len 0 n) → new ≡ old ++ f n
    → new ≡ start ++ flat_map f (range_with_len 0 (n + 1))
range_step f n start old new so is =
    is ∙ ap (λ xs. xs ++ f n) so ∙ append_assoc start (flat_map f (range_with_len 0 n)) (f n) ∙ ap (λ xs. start ++ xs) (sym (flat_map_range_more f n))
