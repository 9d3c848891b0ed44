-- One slot of a slab changes.
use Rattle.std.proofs.Common.{◌≡◌, inl, inr, ℕ, ◌+◌, ◌<◌, ◌≤◌, List, [], ◌∷◌, ◌++◌, map, length, Option, Some, None, IsSome, is_some, Bool, true, false, cond, nat_eq, option_map, add-zero, slice_get, slice_index_or as get_or, refl, sym, ap, subst, ◌∙◌, arith}
use Rattle.std.specs.List.{cons_option}
use Rattle.std.proofs.lemmas.List.{map-append, length-map}
use Rattle.std.proofs.lemmas.Bool.{eq-eqb}
use Rattle.std.proofs.lemmas.Bool.Decides.{eqb_tells}
use Rattle.std.proofs.lemmas.Option.{slice_get-map, slice_get_read}
use Rattle.slab.specs.Slab.{Slab, get, Updates}
use Rattle.ent_cells.specs.Grid.{times, IsGrid, entries_of, values}

-- an entry as a key with what may stand under it
abbrev pub filled : {A : Type 0} → ℕ × A → ℕ × Option A
filled e = (e.0, Some e.1)

-- what a slab has under a key, beside it
abbrev pub slot : {A : Type 0} → Slab A → ℕ → ℕ × Option A
slot s k = (k, get s k)

one_filled : {A : Type 0} (x y : ℕ × A) → filled x ≡ filled y → x ≡ y
one_filled (k, a) (q, b) e =
    let key : k ≡ q = ap (λ p. p.0) e in
    let value : Some a ≡ Some b = ap (λ p. p.1) e in
    let same : a ≡ b = cc in
    λ j. (key j, same j)

-- lists of entries are equal where they are as keys with what stands under them
pub filled_inside : {A : Type 0} (xs ys : List (ℕ × A)) → map filled xs ≡ map filled ys → xs ≡ ys
filled_inside [] [] e = refl
filled_inside [] (y ∷ ys) e = absurd (cc)
filled_inside (x ∷ xs) [] e = absurd (cc)
filled_inside (x ∷ xs) (y ∷ ys) e =
    let h : filled x ≡ filled y = cc in
    let t : map filled xs ≡ map filled ys = cc in
    λ j. one_filled x y h j ∷ filled_inside xs ys t j

pub itself : (k : ℕ) → nat_eq k k ≡ true
itself k = eq-eqb k k refl

abbrev pub AllThere : {A : Type 0} → Slab A → List ℕ → Type 0
AllThere s [] = Unit {0}
AllThere s (k ∷ ks) = IsSome (get s k) × AllThere s ks

-- no key stands more often than the slab has a value under it
abbrev pub IsWithin : {A : Type 0} → Slab A → List ℕ → Type 0
IsWithin s ks = (k : ℕ) → times k ks ≤ cond (is_some (get s k)) 1 0

some_by : (b : Bool) (n : ℕ) → 1 + n ≤ cond b 1 0 → b ≡ true
some_by true n h = refl
some_by false n h = absurd (omega arith)

pub read_key : (ks : List ℕ) (i k : ℕ) → i < length ks → k ≡ get_or ks i k → slice_get ks i ≡ Some k
read_key ks i k h e = slice_get_read ks (length ks) i k refl h e

module _ {A : Type 0} where
  pub grid_within : (s : Slab A) (ks : List ℕ) → IsGrid s ks → IsWithin s ks
  grid_within s ks g k = omega (arith, g k)

  within_tail : (s : Slab A) (q : ℕ) (ks : List ℕ) → IsWithin s (q ∷ ks) → IsWithin s ks
  within_tail s q ks w k = let h = w k in omega (arith, h)

  within_head : (s : Slab A) (q : ℕ) (ks : List ℕ) → IsWithin s (q ∷ ks) → IsSome (get s q)
  within_head s q ks w =
      let h : 1 + times q ks ≤ cond (is_some (get s q)) 1 0 = subst (λ (b : Bool). cond b 1 0 + times q ks ≤ cond (is_some (get s q)) 1 0) (itself q) (w q) in
      some_by (is_some (get s q)) (times q ks) h

  pub all_there : (s : Slab A) (ks : List ℕ) → IsWithin s ks → AllThere s ks
  all_there s [] w = tt
  all_there s (k ∷ ks) w = (within_head s k ks w, all_there s ks (within_tail s k ks w))

  shown_one : (k : ℕ) (o : Option A) (xs : List (ℕ × A)) (os : List (ℕ × Option A)) → IsSome o → map filled xs ≡ os → map filled (cons_option (option_map (λ v. (k, v)) o) xs) ≡ (k, o) ∷ os
  shown_one k None xs os h e = absurd (cc)
  shown_one k (Some a) xs os h e = ap (λ ys. (k, Some a) ∷ ys) e

  pub shown : (s : Slab A) (ks : List ℕ) → AllThere s ks → map filled (entries_of s ks) ≡ map (slot s) ks
  shown s [] a = refl
  shown s (k ∷ ks) a = shown_one k (get s k) (entries_of s ks) (map (slot s) ks) a.0 (shown s ks a.1)

  pub grid_shown : (s : Slab A) (ks : List ℕ) → IsGrid s ks → map filled (entries_of s ks) ≡ map (slot s) ks
  grid_shown s ks g = shown s ks (all_there s ks (grid_within s ks g))

  pub long : (s : Slab A) (ks : List ℕ) → IsGrid s ks → length (entries_of s ks) ≡ length ks
  long s ks g = sym (length-map (entries_of s ks) filled) ∙ ap length (grid_shown s ks g) ∙ length-map ks (slot s)

  one_inside : (x : Option (ℕ × A)) (k : ℕ) (o : Option A) → option_map filled x ≡ Some (k, o) → option_map (λ e. e.1) x ≡ o
  one_inside None k o e = absurd (cc)
  one_inside (Some a) k o e =
      let h : filled a ≡ (k, o) = cc in
      ap (λ p. p.1) h

  -- the value at a place is the one under its key
  pub at : (s : Slab A) (ks : List ℕ) (i k : ℕ) → IsGrid s ks → i < length ks → k ≡ get_or ks i k → slice_get (values (entries_of s ks)) i ≡ get s k
  at s ks i k g h e =
      slice_get-map (λ p. p.1) (entries_of s ks) i
      ∙ one_inside (slice_get (entries_of s ks) i) k (get s k)
      (sym (slice_get-map filled (entries_of s ks) i) ∙ ap (λ os. slice_get os i) (grid_shown s ks g) ∙ slice_get-map (slot s) ks i ∙ ap (λ o. option_map (slot s) o) (read_key ks i k h e))

  none_inside : (x : Option (ℕ × A)) → option_map filled x ≡ None → option_map (λ e. e.1) x ≡ None
  none_inside None e = refl
  none_inside (Some a) e = absurd (cc)

  -- behind the keys there is no value
  pub at_none : (s : Slab A) (ks : List ℕ) (i : ℕ) → IsGrid s ks → slice_get ks i ≡ None → slice_get (values (entries_of s ks)) i ≡ None
  at_none s ks i g e =
      slice_get-map (λ p. p.1) (entries_of s ks) i
      ∙ none_inside (slice_get (entries_of s ks) i)
      (sym (slice_get-map filled (entries_of s ks) i) ∙ ap (λ os. slice_get os i) (grid_shown s ks g) ∙ slice_get-map (slot s) ks i ∙ ap (λ o. option_map (slot s) o) e)

  module _ (s t : Slab A) (k : ℕ) (v : A) (u : Updates s t k (Some v)) where
    others_kept : (ks : List ℕ) → times k ks ≡ 0 → map (slot t) ks ≡ map (slot s) ks
    others_kept [] n = refl
    others_kept (q ∷ ks) n = elim (eqb_tells q k) [
      | inl p ↦ let same : nat_eq k q ≡ true = eq-eqb k q (sym p.1) in absurd (let bad : 1 + times k ks ≡ 0 = subst (λ (b : Bool). cond b 1 0 + times k ks ≡ 0) same n in omega arith)
      | inr p ↦ λ i. (q, u.others q p.1 i) ∷ others_kept ks (omega (arith, n)) i
    ]

    -- a value is added under a key that was vacant
    times_more : (q : ℕ) (ks : List ℕ) → times q (ks ++ k ∷ []) ≡ times q ks + cond (nat_eq q k) 1 0
    times_more q [] = omega arith
    times_more q (x ∷ ks) = omega (arith, times_more q ks)

    more_by : (q : ℕ) (ks : List ℕ) (was now eq : ℕ) → times q ks ≡ was → cond (nat_eq q k) 1 0 ≡ eq → was + eq ≡ now → times q (ks ++ k ∷ []) ≡ now
    more_by q ks was now eq w e n = omega (arith, times_more q ks)

    pub more_grid : (ks : List ℕ) → get s k ≡ None → IsGrid s ks → IsGrid t (ks ++ k ∷ [])
    more_grid ks none g q = elim (eqb_tells q k) [
      | inl p ↦
          more_by q ks 0 (cond (is_some (get t q)) 1 0) 1
          (g q ∙ ap (λ (o : Option A). cond (is_some o) 1 0) (ap (get s) p.1 ∙ none))
          (ap (λ (b : Bool). cond b 1 0) (eq-eqb q k p.1))
          (sym (ap (λ (o : Option A). cond (is_some o) 1 0) (ap (get t) p.1 ∙ u.changed)))
      | inr p ↦
          more_by q ks (cond (is_some (get s q)) 1 0) (cond (is_some (get t q)) 1 0) 0 (g q)
          (ap (λ (b : Bool). cond b 1 0) p.0)
          (add-zero (cond (is_some (get s q)) 1 0) ∙ sym (ap (λ (o : Option A). cond (is_some o) 1 0) (u.others q p.1)))
    ]

    pub more_values : (ks : List ℕ) → get s k ≡ None → IsGrid s ks → entries_of t (ks ++ k ∷ []) ≡ entries_of s ks ++ (k, v) ∷ []
    more_values ks none g =
        let gone : times k ks ≡ 0 = g k ∙ ap (λ o. cond (is_some o) 1 0) none in
        filled_inside (entries_of t (ks ++ k ∷ [])) (entries_of s ks ++ (k, v) ∷ [])
        (grid_shown t (ks ++ k ∷ []) (more_grid ks none g)
        ∙ map-append (slot t) ks (k ∷ []) ∙ (λ j. others_kept ks gone j ++ (k, u.changed j) ∷ [])
        ∙ sym (map-append filled (entries_of s ks) ((k, v) ∷ []) ∙ ap (λ os. os ++ (k, Some v) ∷ []) (grid_shown s ks g)))
