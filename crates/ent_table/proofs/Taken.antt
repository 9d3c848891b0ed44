-- A name that is taken out of a list.
use Rattle.std.proofs.Common.{◌≡◌, ℕ, zero, suc, List, [], ◌∷◌, nat_eq, Bool, true, false, ◌||◌, Some, refl, sym, ap}
use Rattle.std.specs.Prelude.{slice_get}
use Rattle.std.specs.Cmp.Lexicographic.{pointwise, bytes_decides}
use Rattle.indexmap.specs.IndexSet.{remove_key}
use Rattle.ent_table.specs.Names.{has_name, others}
use Rattle.ent_table.specs.proofs_only.Place.{StandsAt}

-- a name that stands in a list
pub has_at : (name : List ℕ) (xs : List (List ℕ)) (j : ℕ) → slice_get xs j ≡ Some name → has_name name xs ≡ true
has_at name [] j e = cc
has_at name (x ∷ xs) zero e = let same : x ≡ name = cc in rw ((bytes_decides name x).1 (sym same)) refl
has_at name (x ∷ xs) (suc j) e = by (pointwise nat_eq name x) (has_at name xs j e) where
  by : (b : Bool) → has_name name xs ≡ true → (b || has_name name xs) ≡ true
  by true h = refl
  by false h = h

-- a list that lacks the name stays
none_else : (name : List ℕ) (xs : List (List ℕ)) → has_name name xs ≡ false → others name xs ≡ xs
none_else name [] h = refl
none_else name (x ∷ xs) h = by (pointwise nat_eq name x) refl (none_else name xs) h where
  by : (b : Bool) → pointwise nat_eq name x ≡ b → (has_name name xs ≡ false → others name xs ≡ xs) → (b || has_name name xs) ≡ false → others name (x ∷ xs) ≡ x ∷ xs
  by true e more h = cc
  by false e more h = rw e (ap (λ (l : List (List ℕ)). x ∷ l) (more h))

-- where a list lacks the name once it was taken out, it stood there alone
pub stands_at : (name : List ℕ) (xs : List (List ℕ)) (place : ℕ) → slice_get xs place ≡ Some name → has_name name (remove_key (pointwise nat_eq name) xs) ≡ false
    → StandsAt name xs place × (remove_key (pointwise nat_eq name) xs ≡ others name xs)
stands_at name [] place at h = cc
stands_at name (x ∷ xs) zero at h =
    let same : x ≡ name = cc in
    let e : pointwise nat_eq name x ≡ true = (bytes_decides name x).1 (sym same) in
    let gone : has_name name xs ≡ false = rw e at h in
    (record { before = []; after = xs; is = ap (λ (y : List ℕ). y ∷ xs) same; here = refl; alone = rw e (none_else name xs gone) }, rw e (sym (none_else name xs gone)))
stands_at name (x ∷ xs) (suc j) at h = by (pointwise nat_eq name x) refl (has_at name xs j at) (stands_at name xs j at) h where
  by : (b : Bool) → pointwise nat_eq name x ≡ b → has_name name xs ≡ true
      → (has_name name (remove_key (pointwise nat_eq name) xs) ≡ false → StandsAt name xs j × (remove_key (pointwise nat_eq name) xs ≡ others name xs))
      → has_name name (remove_key (pointwise nat_eq name) (x ∷ xs)) ≡ false
      → StandsAt name (x ∷ xs) (suc j) × (remove_key (pointwise nat_eq name) (x ∷ xs) ≡ others name (x ∷ xs))
  by true e has more h = let none : has_name name xs ≡ false = rw e at h in cc
  by false e has more h =
      let none : has_name name (remove_key (pointwise nat_eq name) xs) ≡ false = rw (e, e) at h in
      let rest = more none in
      (record { before = x ∷ rest.0.before; after = rest.0.after; is = ap (λ (l : List (List ℕ)). x ∷ l) rest.0.is; here = ap suc rest.0.here; alone = rw e (ap (λ (l : List (List ℕ)). x ∷ l) rest.0.alone) }, rw e (ap (λ (l : List (List ℕ)). x ∷ l) rest.1))
