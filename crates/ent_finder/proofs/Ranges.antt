-- Where the elements of a list rise towards what is wanted, those that tie with it stand between two points.
use Rattle.std.proofs.Common.{◌≡◌, ℕ, zero, suc, ◌+◌, ◌-◌, ◌≤◌, Bool, true, false, cond, not, ◌&&◌, T, List, [], ◌∷◌, drop, length, map, take, slice_index_or as get_or, refl, ap, ◌∙◌, arith, inl, inr}
use Rattle.std.specs.Cmp.{IsTotalOrder}
use Rattle.std.specs.FinMap.{is_sorted}
use Rattle.std.specs.List.{AllWithin, filter}
use Rattle.std.specs.List.Sorted.{IsNonDecreasingBy, IsPartitionPoint, IsPartitionedBy, IsSortedBy}
use Rattle.std.specs.Ordering.{is_eq, is_gt, is_le, is_lt, ordering_index, ordering_reverse}
use Rattle.std.specs.declared.cmp.Ordering.{Ordering}
use Rattle.std.specs.declared.cmp.Ordering.TheVariants.{Less, Equal, Greater}
use Rattle.std.proofs.lemmas.Bool.{cases_lt}
use Rattle.std.proofs.lemmas.List.Sorted.{searchable_from_sorted}
use Rattle.ent_finder.proofs.Fronts.{EndsAt, ends_in_rest, rest, rest_parted}
use Rattle.ent_finder.proofs.Sorted.{adjacent, element}

-- ---- tests that hold up to a point

-- the elements stand in an order that doesn't fall
abbrev pub Rises : {X : Type 0} → (X → Ordering) → List X → Type 0
Rises order xs = IsNonDecreasingBy (λ x. ordering_index (order x)) xs

lt_down : (a b : Ordering) → ordering_index a ≤ ordering_index b → is_lt b ≡ true → is_lt a ≡ true
lt_down a Equal le h = cc
lt_down a Greater le h = cc
lt_down Less Less le h = refl
lt_down Equal Less le h = absurd (omega arith)
lt_down Greater Less le h = absurd (omega arith)

le_down : (a b : Ordering) → ordering_index a ≤ ordering_index b → is_le b ≡ true → is_le a ≡ true
le_down a Greater le h = cc
le_down Less b le h = refl
le_down Equal b le h = refl
le_down Greater Less le h = absurd (omega arith)
le_down Greater Equal le h = absurd (omega arith)

lt_reverse : (o : Ordering) → is_lt (ordering_reverse o) ≡ is_gt o
lt_reverse Less = refl
lt_reverse Equal = refl
lt_reverse Greater = refl

module _ {X : Type 0} (order : X → Ordering) (xs : List X) (rises : Rises order xs) where
  pub lt_partitioned : IsPartitionedBy (λ x. is_lt (order x)) xs
  lt_partitioned i j d le lt h = lt_down _ _ (rises i j d le lt) h

  pub le_partitioned : IsPartitionedBy (λ x. is_le (order x)) xs
  le_partitioned i j d le lt h = le_down _ _ (rises i j d le lt) h

-- elements in the order of their keys rise by whatever follows that order
module _ {K X S N : Type 0} (R : K → K → Ordering) (entry : S → K × X) {Q : N → N → Ordering} (o : IsTotalOrder Q) (name : S → N) (follows : (x y : S) → R (entry x).0 (entry y).0 ≡ Less → is_gt (Q (name x) (name y)) ≡ false) (xs : List S) (sorted : T (is_sorted R (map entry xs))) where
  in_turn : IsSortedBy (λ x y. is_lt (Q (name x) (name y))) xs
  in_turn k d le lt =
      let x = get_or xs k d in
      let y = get_or xs (k + 1) d in
      ap is_lt (o.antisymm (name y) (name x)) ∙ lt_reverse _ ∙ follows x y (adjacent R entry xs k d sorted lt)

  pub rises_with : (n : N) → Rises (λ x. Q (name x) n) xs
  rises_with n = searchable_from_sorted o name xs n in_turn

-- ---- the part of a list between two points

module _ {X : Type 0} (p q : X → Bool) where
  abbrev kept : X → Bool
  kept x = not (p x) && q x

  dropped : (a b : Bool) → b ≡ false → (a && b) ≡ false
  dropped true b h = h
  dropped false b h = refl

  keep : (x : X) (xs ys : List X) (b : Bool) → b ≡ true → xs ≡ ys → x ∷ xs ≡ cond b (x ∷ ys) ys
  keep x xs ys true h e = ap (λ zs. x ∷ zs) e
  keep x xs ys false h e = cc

  leave : (x : X) (xs ys : List X) (b : Bool) → b ≡ false → xs ≡ ys → xs ≡ cond b (x ∷ ys) ys
  leave x xs ys true h e = cc
  leave x xs ys false h e = e

  part : (xs : List X) (a n : ℕ) → AllWithin (λ y. p y ≡ true) xs 0 a → AllWithin (λ y. p y ≡ false) xs a (length xs)
      → AllWithin (λ y. q y ≡ true) xs 0 (a + n) → AllWithin (λ y. q y ≡ false) xs (a + n) (length xs) → a + n ≤ length xs → take n (drop a xs) ≡ filter kept xs
  part [] zero zero h₁ h₂ h₃ h₄ le = refl
  part [] zero (suc n) h₁ h₂ h₃ h₄ le = absurd (omega arith)
  part [] (suc a) n h₁ h₂ h₃ h₄ le = absurd (omega arith)
  part (x ∷ xs) zero zero h₁ h₂ h₃ h₄ le =
      leave x [] (filter kept xs) (kept x) (dropped (not (p x)) (q x) (h₄ 0 x (omega arith) (omega arith)))
      (part xs zero zero (λ k d lo hi. absurd (omega arith)) (λ k d lo hi. h₂ (suc k) d (omega arith) (omega arith))
      (λ k d lo hi. absurd (omega arith)) (λ k d lo hi. h₄ (suc k) d (omega arith) (omega arith)) (omega arith))
  part (x ∷ xs) zero (suc n) h₁ h₂ h₃ h₄ le =
      keep x (take n xs) (filter kept xs) (kept x) (rw (h₂ 0 x (omega arith) (omega arith)) (h₃ 0 x (omega arith) (omega arith)))
      (part xs zero n (λ k d lo hi. absurd (omega arith)) (λ k d lo hi. h₂ (suc k) d (omega arith) (omega arith))
      (λ k d lo hi. h₃ (suc k) d (omega arith) (omega arith)) (λ k d lo hi. h₄ (suc k) d (omega arith) (omega arith)) (omega arith))
  part (x ∷ xs) (suc a) n h₁ h₂ h₃ h₄ le =
      leave x (take n (drop a xs)) (filter kept xs) (kept x) (rw (h₁ 0 x (omega arith) (omega arith)) refl)
      (part xs a n (λ k d lo hi. h₁ (suc k) d (omega arith) (omega arith)) (λ k d lo hi. h₂ (suc k) d (omega arith) (omega arith))
      (λ k d lo hi. h₃ (suc k) d (omega arith) (omega arith)) (λ k d lo hi. h₄ (suc k) d (omega arith) (omega arith)) (omega arith))

-- ---- those that tie

between : (o : Ordering) → (not (is_lt o) && is_le o) ≡ is_eq o
between Less = refl
between Equal = refl
between Greater = refl

lt_le : (o : Ordering) → is_lt o ≡ true → is_le o ≡ true
lt_le Less h = refl
lt_le Equal h = refl
lt_le Greater h = cc

not_both : (o : Ordering) → is_lt o ≡ true → is_le o ≡ false → ⊥
not_both Less h g = cc
not_both Equal h g = cc
not_both Greater h g = cc

-- the end is looked for from the start on
module _ {X : Type 0} (order : X → Ordering) (xs : List X) (rises : Rises order xs) (a : ℕ) (le : a ≤ length xs) where
  pub le_partitioned_rest : IsPartitionedBy (λ x. is_le (order x)) (rest a xs)
  le_partitioned_rest = rest_parted (λ x. is_le (order x)) xs a le (le_partitioned order xs rises)

  pub ends_after : (n : ℕ) → EndsAt (λ x. is_lt (order x)) xs a → EndsAt (λ x. is_le (order x)) (rest a xs) n → EndsAt (λ x. is_le (order x)) xs (a + n)
  ends_after n starts ends = ends_in_rest (λ x. is_le (order x)) xs a le n (λ k d lo hi. lt_le _ (starts.0 k d lo hi)) ends

module _ {X : Type 0} (order : X → Ordering) (xs : List X) (a b : ℕ) (starts : IsPartitionPoint (λ x. is_lt (order x) ≡ true) (λ x. is_lt (order x) ≡ false) xs a)
    (ends : IsPartitionPoint (λ x. is_le (order x) ≡ true) (λ x. is_le (order x) ≡ false) xs b) where
  -- the start isn't past the end
  pub in_order : a ≤ length xs → a ≤ b
  in_order le = elim (cases_lt b a) [
    | inl before ↦
        let x = element xs b (omega arith) in
        absurd (not_both _ (starts.0 b x.0 (omega arith) before) (ends.1 b x.0 (omega arith) (omega arith)))
    | inr fine ↦ fine
  ]

  pub tied_between : (test : X → Bool) → ((x : X) → is_eq (order x) ≡ test x) → a ≤ length xs → b ≤ length xs → take (b - a) (drop a xs) ≡ filter test xs
  tied_between test same la lb =
      let le = in_order la in
      let is : a + (b - a) ≡ b = omega arith in
      part (λ x. is_lt (order x)) (λ x. is_le (order x)) xs a (b - a)
      starts.0 starts.1 (λ k d lo hi. ends.0 k d lo (omega arith)) (λ k d lo hi. ends.1 k d (omega arith) hi) (omega arith)
      ∙ ap (λ (tests : X → Bool). filter tests xs) (λ t x. (between (order x) ∙ same x) t)
