-- The first of a list's elements that pass a test.
use Rattle.std.proofs.Common.{◌≡◌, ◌<◌, ◌≤◌, ◌+◌, ◌-◌, ℕ, List, [], ◌∷◌, length, get_or, take, drop, Bool, true, false, refl, sym, ap, ◌∙◌, arith}
use Rattle.std.specs.List.{after_first, before_first, position_or_len, slice_split}
use Rattle.std.proofs.lemmas.List.{drop_all, take_all, take_rest}
use Rattle.std.proofs.lemmas.List.Splits.{slice_split_first, slice_split_none}
use Rattle.std.proofs.lemmas.List.Sums.{position_or_len_is}

module _ {X : Type 0} (p : X → Bool) (xs : List X) (i : ℕ) (none_before : (k : ℕ) (d : X) → k < i → p (get_or xs k d) ≡ false) where
  at_place : (d : X) → i < length xs → p (get_or xs i d) ≡ true → position_or_len p xs ≡ i
  at_place d lt passes = position_or_len_is p xs i d (omega (arith, lt)) (λ k h. none_before k d h) (λ h. passes)

  -- the first element that passes is at this place
  pub before_first_at : (d : X) → i < length xs → p (get_or xs i d) ≡ true → take i xs ≡ before_first p xs
  before_first_at d lt passes = ap (λ n. take n xs) (sym (at_place d lt passes))

  -- and these stand behind it
  pub after_first_at : (d : X) → i < length xs → p (get_or xs i d) ≡ true → take (length xs - (i + 1)) (drop (i + 1) xs) ≡ after_first p xs
  after_first_at d lt passes = take_rest xs (i + 1) ∙ ap (λ n. drop (n + 1) xs) (sym (at_place d lt passes))

  -- a list is cut there
  pub slice_split_here : (d : X) → i < length xs → p (get_or xs i d) ≡ true
      → slice_split p xs ≡ take i xs ∷ slice_split p (take (length xs - (i + 1)) (drop (i + 1) xs))
  slice_split_here d lt passes =
      slice_split_first p xs d (omega (arith, at_place d lt passes, lt))
      ∙ ap (λ front. front ∷ slice_split p (after_first p xs)) (sym (before_first_at d lt passes))
      ∙ ap (λ rest. take i xs ∷ slice_split p rest) (sym (after_first_at d lt passes))

  -- no element passes
  pub slice_split_nowhere : length xs ≤ i → slice_split p xs ≡ xs ∷ []
  slice_split_nowhere le = slice_split_none p xs (λ k d h. none_before k d (omega (arith, h, le)))

  place_of_none : (d : X) → length xs ≤ i → position_or_len p xs ≡ length xs
  place_of_none d le = position_or_len_is p xs (length xs) d (omega arith) (λ k h. none_before k d (omega (arith, h, le))) (λ h. absurd (omega (arith, h)))

-- all stand before the first that passes, where none does
pub before_first_nowhere : {X : Type 0} (p : X → Bool) (xs : List X) (i : ℕ)
    → ((k : ℕ) (d : X) → k < i → p (get_or xs k d) ≡ false) → length xs ≤ i → xs ≡ before_first p xs
before_first_nowhere p [] i none_before le = refl
before_first_nowhere p (x ∷ xs) i none_before le =
    sym (take_all (position_or_len p (x ∷ xs)) (x ∷ xs) (omega (arith, place_of_none p (x ∷ xs) i none_before x le)))

-- and none stand behind it
pub after_first_nowhere : {X : Type 0} (p : X → Bool) (xs : List X) (i : ℕ)
    → ((k : ℕ) (d : X) → k < i → p (get_or xs k d) ≡ false) → length xs ≤ i → [] ≡ after_first p xs
after_first_nowhere p [] i none_before le = refl
after_first_nowhere p (x ∷ xs) i none_before le =
    sym (drop_all (position_or_len p (x ∷ xs) + 1) (x ∷ xs) (omega (arith, place_of_none p (x ∷ xs) i none_before x le)))
