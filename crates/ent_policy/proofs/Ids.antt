-- Sets of ids, and ids that stand twice.
use Rattle.std.proofs.Common.{◌≡◌, ℕ, ◌+◌, ◌<◌, List, [], ◌∷◌, ◌++◌, length, map, take, drop, get_or, Bool, true, false, ◌||◌, cond, Bor, Ordering, nat_cmp, refl, sym, ap, ◌∙◌, bytes_eq, inl, inr}
use Rattle.std.proofs.Math.Bool.{or-false, or-true}
use Rattle.std.proofs.lemmas.Bool.{or_cases, or_left, or_parts, or_right}
use Rattle.std.proofs.lemmas.List.{drop_more, map-append, map_more, take-append-drop}
use Rattle.std.proofs.lemmas.List.Folds.{list_any-append}
use Rattle.std.proofs.lemmas.Map.Text.{is_eq-slice_cmp}
use Rattle.std.specs.BTreeSet.{BTreeSet, UpdatesBy}
use Rattle.std.specs.Cmp.{IsEquivalence}
use Rattle.std.specs.Cmp.Lexicographic.{on_texts_equal, slice_cmp}
use Rattle.std.specs.Ordering.{is_eq}
use Rattle.ent_policy.specs.Limits.{has_double, is_among}
use Rattle.ent_policy.specs.proofs_only.Order.{has_id}

-- the laws of equal ids
pub same_id : IsEquivalence bytes_eq
same_id = on_texts_equal (λ (id : List ℕ). id)

-- one more id
pub among_push : (ids : List (List ℕ)) (id q : List ℕ) → is_among (ids ++ id ∷ []) q ≡ cond (bytes_eq id q) true (is_among ids q)
among_push ids id q = list_any-append (bytes_eq q) ids (id ∷ []) ∙ rw (same_id.symm q id) (turned (is_among ids q) (bytes_eq id q))
  where
    turned : (a b : Bool) → (a || (b || false)) ≡ cond b true a
    turned a true = or-true a
    turned a false = or-false a

-- how the set orders texts
abbrev pub text_cmp : Bor (List ℕ) → Bor (List ℕ) → Ordering
text_cmp a b = slice_cmp nat_cmp a.now b.now

-- a set that has some ids, and then one more
pub known_push : (ids : List (List ℕ)) (s n : BTreeSet (Bor (List ℕ))) (key : Bor (List ℕ)) → ((q : List ℕ) → has_id s q ≡ is_among ids q) → UpdatesBy text_cmp (text_cmp key) s n true
    → (q : List ℕ) → has_id n q ≡ is_among (ids ++ key.now ∷ []) q
known_push ids s n key known updates q =
    let here : has_id n q ≡ cond (is_eq (slice_cmp nat_cmp key.now q)) true (has_id s q) = updates.0 (record { ref_ptr = (0, 0); now = q }) in
    here ∙ rw (is_eq-slice_cmp key.now q, known q, among_push ids key.now q) refl

-- an id more that isn't among them, and one that is
double_push : (ids : List (List ℕ)) (id : List ℕ) → is_among ids id ≡ false → has_double ids ≡ false → has_double (ids ++ id ∷ []) ≡ false
double_push [] id new once = refl
double_push (x ∷ ids) id new once =
    let n = or_parts (bytes_eq id x) (is_among ids id) new in
    let o = or_parts (is_among ids x) (has_double ids) once in
    rw (among_push ids id x, n.0, o.0) (double_push ids id n.1 o.1)

double_again : (ids rest : List (List ℕ)) (id : List ℕ) → is_among ids id ≡ true → has_double (ids ++ id ∷ rest) ≡ true
double_again [] rest id there = absurd cc
double_again (x ∷ ids) rest id there =
    elim (or_cases (bytes_eq id x) (is_among ids id) there) [
      | inl same ↦ or_left (is_among (ids ++ id ∷ rest) x) (has_double (ids ++ id ∷ rest))
          (list_any-append (bytes_eq x) ids (id ∷ rest) ∙ or_right (is_among ids x) (bytes_eq x id || is_among rest x) (or_left (bytes_eq x id) (is_among rest x) (same_id.symm x id ∙ same)))
      | inr later ↦ or_right (is_among (ids ++ id ∷ rest) x) (has_double (ids ++ id ∷ rest)) (double_again ids rest id later)
    ]

-- a set has the ids so far, none of which stands twice
pub record AreGathered (ids : List (List ℕ)) (s : BTreeSet (Bor (List ℕ))) : Type 0 where
  pub known : (q : List ℕ) → has_id s q ≡ is_among ids q
  pub once : has_double ids ≡ false

module _ {X : Type 0} (f : X → List ℕ) (xs : List X) (i : ℕ) (x : X) (lt : i < length xs) (here : x ≡ get_or xs i x) (s : BTreeSet (Bor (List ℕ))) (key : Bor (List ℕ)) (same : key.now ≡ f x) (so_far : AreGathered (map f (take i xs)) s) where
  -- the next id is new
  pub gathered_more : (n : BTreeSet (Bor (List ℕ))) → UpdatesBy text_cmp (text_cmp key) s n true → has_id s key.now ≡ false → AreGathered (map f (take (i + 1) xs)) n
  gathered_more n updates new =
      let next : map f (take (i + 1) xs) ≡ map f (take i xs) ++ key.now ∷ [] = rw (← here, ← same) at (map_more f xs i x lt) in
      rw next (record {
        known = known_push (map f (take i xs)) s n key so_far.known updates;
        once = double_push (map f (take i xs)) key.now (sym (so_far.known key.now) ∙ new) so_far.once;
      })

  -- the next id is one that the set has
  pub gathered_twice : has_id s key.now ≡ true → has_double (map f xs) ≡ true
  gathered_twice old =
      let split : map f xs ≡ map f (take i xs) ++ key.now ∷ map f (drop (i + 1) xs) =
      sym (ap (map f) (take-append-drop i xs)) ∙ map-append f (take i xs) (drop i xs) ∙ rw (drop_more xs i x lt, ← here, same) refl in
      rw split (double_again (map f (take i xs)) (map f (drop (i + 1) xs)) key.now (sym (so_far.known key.now) ∙ old))
