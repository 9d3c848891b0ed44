-- How far a test holds of the front of a list.
use Rattle.std.proofs.Common.{◌≡◌, ℕ, ◌+◌, ◌-◌, ◌≤◌, Bool, true, false, List, [], ◌∷◌, drop, length, slice_index_or as get_or, slice_range, refl, sym, ap, subst, ◌∙◌, arith, inl, inr}
use Rattle.std.specs.Borrow.{Bor}
use Rattle.std.specs.Fn.{Called, ComputesKey, Mut}
use Rattle.std.specs.List.{AllWithin, HoldsAt}
use Rattle.std.specs.List.Sorted.{IsPartitionPoint, IsPartitionedBy}
use Rattle.std.proofs.lemmas.Bool.{cases_lt}
use Rattle.std.proofs.lemmas.List.{get_or-drop, length-drop, take_rest}

-- a call answers what the test gives, and so do those that follow
pub answered : {F X : Type 0} {g : Mut F (Bor X × Unit {0}) Bool} {f f' : F} {x : Bor X} {r : Bool} (p : X → Bool) → ComputesKey g p f → Called g f (x, tt) r f' → (p x.now ≡ r) × ComputesKey g p f'
answered {f' = f'} {x = x} {r = r} p h called = (sym (h.at ((x, tt) ∷ []) r f' called).0, record { at = λ xs. (h.at ((x, tt) ∷ xs) r f' called).1 })

-- those in front of that place pass, and those from it on fail
abbrev pub EndsAt : {X : Type 0} → (X → Bool) → List X → ℕ → Type 0
EndsAt p = IsPartitionPoint (λ x. p x ≡ true) (λ x. p x ≡ false)

module _ {X : Type 0} (p : X → Bool) (xs : List X) where
  fails_too : (a b : Bool) → (b ≡ true → a ≡ true) → a ≡ false → b ≡ false
  fails_too a false h fails = refl
  fails_too a true h fails = sym (h refl) ∙ fails

  -- those that pass end at the first that fails
  pub ends_here : (i : ℕ) → IsPartitionedBy p xs → AllWithin (λ x. p x ≡ true) xs 0 i → HoldsAt (λ x. p x ≡ false) xs i → EndsAt p xs i
  ends_here i parted front fails = (front, λ k d lo hi. fails_too _ _ (parted i k d lo hi) (fails d))

-- ---- from a place on

abbrev pub rest : {X : Type 0} → ℕ → List X → List X
rest a xs = slice_range xs a (length xs)

pub rest_within : {X : Type 0} (xs : List X) (a n : ℕ) → a ≤ length xs → n ≤ length (rest a xs) → a + n ≤ length xs
rest_within xs a n le few = omega (arith, ap length (take_rest xs a), length-drop a xs)

module _ {X : Type 0} (p : X → Bool) (xs : List X) (a : ℕ) (le : a ≤ length xs) where
  in_rest : (k : ℕ) (d : X) → a ≤ k → get_or (drop a xs) (k - a) d ≡ get_or xs k d
  in_rest k d lo = get_or-drop a xs (k - a) d ∙ (let is : a + (k - a) ≡ k = omega arith in λ t. get_or xs (is t) d)

  pub rest_parted : IsPartitionedBy p xs → IsPartitionedBy p (rest a xs)
  rest_parted parted =
      rw take_rest (λ i j d lo hi h. ap p (get_or-drop a xs i d) ∙ parted (a + i) (a + j) d (omega arith) (omega (arith, length-drop a xs)) (sym (ap p (get_or-drop a xs j d)) ∙ h))

  -- if all in front of that place pass, those that pass end where those of the rest do
  pub ends_in_rest : (n : ℕ) → AllWithin (λ x. p x ≡ true) xs 0 a → EndsAt p (rest a xs) n → EndsAt p xs (a + n)
  ends_in_rest n front ends =
      let back : EndsAt p (drop a xs) n = rw take_rest at ends in (
        λ k d lo hi. elim (cases_lt k a) [
          | inl before ↦ front k d lo before
          | inr after ↦ subst (λ x. p x ≡ true) (in_rest k d after) (back.0 (k - a) d (omega arith) (omega arith))
        ],
        λ k d lo hi. subst (λ x. p x ≡ false) (in_rest k d (omega arith)) (back.1 (k - a) d (omega arith) (omega (arith, length-drop a xs))),
      )
