-- The difference of two finite maps.
use Rattle.std.proofs.Common.{◌≡◌, List, [], ◌∷◌, ◌++◌, Bool, true, false, cond, ◌&&◌, ◌||◌, T, map, Option, Some, None, unwrap_or}
use Rattle.std.proofs.Common.{refl, sym, ◌∙◌, ap, subst}
use Rattle.std.proofs.lemmas.Bool.{or_parts}
use Rattle.std.specs.BTreeMap.{is_at}
use Rattle.std.specs.Cmp.{IsEquivalence, IsTotalOrder, Equal-is}
use Rattle.std.specs.FinMap.{FinMap, contains_key-keys, entries, entries_sorted, find, from_entries, get, get-entries, get-from_entries}
use Rattle.std.specs.FinMap.{get_tied, is_sorted}
use Rattle.std.specs.FinMap.Entries.{below_all}
use Rattle.std.specs.List.{AllByRecursion, list_any}
use Rattle.std.specs.List.Sorted.{IsStrictlySortedBy}
use Rattle.std.specs.Map.{keys_of, lookup}
use Rattle.std.specs.Option.{is_some}
use Rattle.std.specs.Ordering.{eq_by_cmp, is_eq, is_lt}
use Rattle.std.specs.declared.cmp.Ordering.{Ordering}
use Rattle.std.specs.declared.cmp.Ordering.TheVariants.{Less, Equal, Greater}
use Rattle.ent_log.specs.Difference.{IsDifference, Respects}
use Rattle.ent_log.specs.Law.{DifferenceIsOfMaps}
use Rattle.ent_log.specs.Maps.{keys_of_both, map_difference}
use Rattle.ent_log.proofs.Differing.{changes-difference}
use Rattle.ent_log.proofs.Unique.{differences-unique}

-- ---- their keys are in order

both_true : (a b : Bool) → T (a && b) → T a × T b
both_true true b h = (tt, h)
both_true false b h = absurd h

is_less : (o : Ordering) → T (is_lt o) → o ≡ Less
is_less Less h = refl
is_less Equal h = absurd h
is_less Greater h = absurd h

below : {K X : Type 0} (cmp : K → K → Ordering) (k : K) (es : List (K × X)) → T (below_all cmp k es)
    → AllByRecursion (λ y. cmp k y ≡ Less) (map (λ e. e.0) es)
below cmp k [] h = tt
below cmp k (e ∷ es) h = let parts = both_true (is_lt (cmp k e.0)) (below_all cmp k es) h in (is_less (cmp k e.0) parts.0, below cmp k es parts.1)

ascending : {K X : Type 0} (cmp : K → K → Ordering) (es : List (K × X)) → T (is_sorted cmp es) → IsStrictlySortedBy cmp (map (λ e. e.0) es)
unfolding IsStrictlySortedBy
ascending cmp [] h = tt
ascending cmp (e ∷ es) h = let parts = both_true (below_all cmp e.0 es) (is_sorted cmp es) h in (below cmp e.0 es parts.0, ascending cmp es parts.1)

keys-pairs : {K X : Type 0} (f : K → X) (ks : List K) → keys_of (map (λ k. (k, f k)) ks) ≡ ks
keys-pairs f [] = refl
keys-pairs f (k ∷ ks) = ap (λ qs. k ∷ qs) (keys-pairs f ks)

-- ---- a look-up among the keys

lookup-pairs : {K X : Type 0} (test : K → Bool) (f : K → X) (v : X) → ((k : K) → test k ≡ true → f k ≡ v) → (ks : List K)
    → lookup test (map (λ k. (k, f k)) ks) ≡ cond (list_any test ks) (Some v) None
lookup-pairs test f v same [] = refl
lookup-pairs {K} {X} test f v same (k ∷ ks) = by (test k) refl (lookup-pairs test f v same ks)
  where
    by : (b : Bool) → test k ≡ b → lookup test (map (λ q. (q, f q)) ks) ≡ cond (list_any test ks) (Some v) None
        → cond b (Some (f k)) (lookup test (map (λ q. (q, f q)) ks)) ≡ cond (b || list_any test ks) (Some v) None
    by true is rest = ap Some (same k is)
    by false is rest = rest

none : {X : Type 0} (o : Option X) → is_some o ≡ false → o ≡ None
none None h = refl
none (Some x) h = cc

some-append : {K X : Type 0} (cmp : K → K → Ordering) (q : K) (es fs : List (K × X))
    → is_some (find cmp q (es ++ fs)) ≡ (is_some (find cmp q es) || is_some (find cmp q fs))
some-append cmp q [] fs = refl
some-append cmp q (e ∷ es) fs =
    elim (eq_by_cmp cmp q e.0) as (λ b.
    is_some (cond b (Some e.1) (find cmp q (es ++ fs))) ≡ (is_some (cond b (Some e.1) (find cmp q es)) || is_some (find cmp q fs))) [
      | true ↦ refl
      | false ↦ some-append cmp q es fs
    ]

-- a key is among those of both where one of the maps has it
among : {K A : Type 0} {cmp : K → K → Ordering} (total : IsTotalOrder cmp) (m n : FinMap cmp A) (q : K)
    → list_any (is_at (cmp q)) (keys_of_both m n) ≡ (is_some (get m q) || is_some (get n q))
among {cmp = cmp} total m n q =
    sym (contains_key-keys (from_entries {R = cmp} (entries m ++ entries n)) q)
    ∙ ap is_some (get-from_entries total (entries m ++ entries n) q)
    ∙ some-append cmp q (entries m) (entries n)
    ∙ ap (λ o. is_some o || is_some (find cmp q (entries n))) (sym (get-entries m q))
    ∙ ap (λ o. is_some (get m q) || is_some o) (sym (get-entries n q))

-- what a map has at a key is what stands there among the keys of both, and without it what the other has
has : {K A : Type 0} {cmp : K → K → Ordering} (total : IsTotalOrder cmp) (m n : FinMap cmp A) (q : K)
    → get m q ≡ unwrap_or (lookup (is_at (cmp q)) (map (λ k. (k, get m k)) (keys_of_both m n))) (get n q)
has {K} {A} {cmp} total m n q =
    let same : (k : K) → is_eq (cmp q k) ≡ true → get m k ≡ get m q = λ k is. get_tied total m q k ((Equal-is (cmp q k)).0 is) in
    by (list_any (is_at (cmp q)) (keys_of_both m n)) (among total m n q)
    ∙ ap (λ o. unwrap_or o (get n q)) (sym (lookup-pairs (is_at (cmp q)) (get m) (get m q) same (keys_of_both m n)))
  where
    by : (b : Bool) → b ≡ (is_some (get m q) || is_some (get n q)) → get m q ≡ unwrap_or (cond b (Some (get m q)) None) (get n q)
    by true is = refl
    by false is =
        let parts = or_parts (is_some (get m q)) (is_some (get n q)) (sym is) in
        none (get m q) parts.0 ∙ sym (none (get n q) parts.1)

-- ---- the difference

-- what two maps have at their keys, where they differ, is their difference
pub map_difference-difference : {K A : Type 0} {cmp : K → K → Ordering} (total : IsTotalOrder cmp) {eq : A → A → Bool} (laws : IsEquivalence eq)
    → (m n : FinMap cmp A) → IsDifference cmp eq (get m) (get n) (map_difference eq m n)
map_difference-difference {K} {A} {cmp} total {eq} laws m n =
    let all : FinMap cmp A = from_entries {R = cmp} (entries m ++ entries n) in
    let ks : List K = keys_of_both m n in
    let respects : Respects cmp (get n) = λ a b e. sym (get_tied total n a b e) in
    let pairs : List (K × Option A) = map (λ k. (k, get m k)) ks in
    let sorted : IsStrictlySortedBy cmp (keys_of pairs) =
    subst (IsStrictlySortedBy cmp) (sym (keys-pairs (get m) ks)) (ascending cmp (entries all) (entries_sorted all)) in
    changes-difference total laws (get m) (get n) respects pairs sorted (has total m n)

pub difference-of_maps : {K A : Type 0} {cmp : K → K → Ordering} (total : IsTotalOrder cmp) {eq : A → A → Bool} (laws : IsEquivalence eq)
    → DifferenceIsOfMaps cmp eq
difference-of_maps {cmp = cmp} total {eq} laws exact m n changes d =
    differences-unique cmp total eq exact (get m) (get n) changes (map_difference eq m n) d (map_difference-difference total laws m n)
