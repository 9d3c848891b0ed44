-- The seat of a key in a list of elements in the order of their keys.
use Rattle.std.proofs.Common.{Bor, ◌≡◌, ℕ, zero, suc, ◌+◌, ◌<◌, ◌≤◌, true, false, T, List, [], ◌∷◌, ◌++◌, drop, length, map, take, Option, Some, None, Result, Ok, Err, IfErr, IfOk, inl, inr, is_ok, is_some, slice_get, slice_index_or as get_or, slice_set as set, unwrap_or, refl, sym, ap, subst, ◌∙◌, arith}
use Rattle.std.specs.Cmp.{IsTotalOrder}
use Rattle.std.specs.FinMap.{FinMap, IsAntisymmetric, empty, empty_of_len, len, len-entries, entries, entries-from_sorted, entries-insert, find, from_sorted, get, get-from_sorted, insert as map_insert, is_sorted, put, same_entries_map}
use Rattle.std.specs.FinMap.Entries.{is_sorted-put}
use Rattle.std.specs.List.{drop-map, insert, take-map}
use Rattle.std.specs.List.Sorted.{IsBinarySearchResult, IsSearchInRange, IsSortedBy}
use Rattle.std.specs.Option.{option_copied, option_map, option_map_or}
use Rattle.std.specs.Ordering.{is_eq, is_lt, ordering_reverse}
use Rattle.std.specs.Slice.{IsGetResult}
use Rattle.std.specs.declared.cmp.Ordering.{Ordering}
use Rattle.std.specs.declared.cmp.Ordering.TheVariants.{Less, Equal, Greater}
use Rattle.std.proofs.lemmas.Bool.{cases_lt}
use Rattle.std.proofs.lemmas.List.{length-map, map-append, map-set}
use Rattle.std.proofs.lemmas.List.Sorted.{searchable_from_sorted}
use Rattle.std.proofs.lemmas.Option.{same_Some, slice_get-map, slice_get_past, slice_get_read, slice_get_within}
use Rattle.ent_finder.proofs.Sorted.{adjacent, element, entry_read, equal, find_there, none_there, place_of_key, place_within, put_new, put_there}
use Rattle.ent_finder.specs.proofs_only.Places.{IsPlace, IsSeat, is_at, is_before}

-- ---- the place that a binary search finds

module _ {K X S : Type 0} (R : K → K → Ordering) (entry : S → K × X) where
  abbrev pub IsThere : K → List S → ℕ → Type 0
  IsThere k ss i = IsPlace R k (map entry ss) i × (is_at R k (map entry ss) i ≡ true)

  abbrev pub IsGap : K → List S → ℕ → Type 0
  IsGap k ss i = IsPlace R k (map entry ss) i × (is_at R k (map entry ss) i ≡ false)

  before_is : (ss : List S) (k : K) (i : ℕ) (s : S) → i < length ss → s ≡ get_or ss i s → is_before R k (map entry ss) i ≡ is_lt (R (entry s).0 k)
  before_is ss k i s h is = ap (λ o. option_map_or (λ (e : K × X). is_lt (R e.0 k)) o false) (entry_read entry ss i s h is)

  at_is : (ss : List S) (k : K) (i : ℕ) (s : S) → i < length ss → s ≡ get_or ss i s → is_at R k (map entry ss) i ≡ is_eq (R (entry s).0 k)
  at_is ss k i s h is = ap (λ o. option_map_or (λ (e : K × X). is_eq (R e.0 k)) o false) (entry_read entry ss i s h is)

nothing_past : {S E : Type 0} (entry : S → E) (ss : List S) (i : ℕ) → length ss ≤ i → slice_get (map entry ss) i ≡ None
nothing_past entry ss i h = slice_get_past (map entry ss) i (simp length-map h)

module _ {K X S : Type 0} {R : K → K → Ordering} (o : IsTotalOrder R) (entry : S → K × X) (ss : List S) (k : K) (sorted : T (is_sorted R (map entry ss))) where
  rises : IsSortedBy (λ a b. is_lt (R (entry a).0 (entry b).0)) ss
  rises i d le lt =
      ap is_lt (o.antisymm (entry (get_or ss (i + 1) d)).0 (entry (get_or ss i d)).0 ∙ ap ordering_reverse (adjacent R entry ss i d sorted lt))

  found : (i : ℕ) → i < length ss → ((d : S) → R (entry (get_or ss i d)).0 k ≡ Equal) → IsThere R entry k ss i
  found i h tie =
      let s = element ss i h in
      let here : is_at R k (map entry ss) i ≡ true = at_is R entry ss k i s.0 h s.1 ∙ ap (λ (x : S). is_eq (R (entry x).0 k)) s.1 ∙ ap is_eq (tie s.0) in
      (place_of_key o k (map entry ss) sorted i here, here)

  absent : (i : ℕ) → i ≤ length ss → ((j : ℕ) (d : S) → 0 ≤ j → j < i → R (entry (get_or ss j d)).0 k ≡ Less) → ((j : ℕ) (d : S) → i ≤ j → j < length ss → R (entry (get_or ss j d)).0 k ≡ Greater) → IsGap R entry k ss i
  absent i h less_before greater_after = (
    record {
      in_front = in_front;
      from_there = λ j le. elim (cases_lt j (length ss)) [
        | inl lt ↦ behind j le lt
        | inr past ↦ ap (λ p. option_map_or (λ (e : K × X). is_lt (R e.0 k)) p false) (nothing_past entry ss j past)
      ];
    },
    elim (cases_lt i (length ss)) [
      | inl lt ↦ let s = element ss i lt in at_is R entry ss k i s.0 lt s.1 ∙ ap (λ (x : S). is_eq (R (entry x).0 k)) s.1 ∙ ap is_eq (greater_after i s.0 (omega arith) lt)
      | inr past ↦ ap (λ p. option_map_or (λ (e : K × X). is_eq (R e.0 k)) p false) (nothing_past entry ss i past)
    ],
  )
    where
      in_front : (j : ℕ) → j < i → is_before R k (map entry ss) j ≡ true
      in_front j lt =
          let n : j < length ss = omega arith in
          let s = element ss j n in
          before_is R entry ss k j s.0 n s.1 ∙ ap (λ (x : S). is_lt (R (entry x).0 k)) s.1 ∙ ap is_lt (less_before j s.0 (omega arith) lt)

      behind : (j : ℕ) → i ≤ j → j < length ss → is_before R k (map entry ss) j ≡ false
      behind j le n =
          let s = element ss j n in
          before_is R entry ss k j s.0 n s.1 ∙ ap (λ (x : S). is_lt (R (entry x).0 k)) s.1 ∙ ap is_lt (greater_after j s.0 le n)

  pub searched : (r : Result ℕ ℕ) → IsSearchInRange r (length ss) → IsBinarySearchResult (λ s. R (entry s).0 k) ss r → record { found : IfOk r (IsThere R entry k ss); absent : IfErr r (IsGap R entry k ss) }
  searched (Ok i) within at = record { found = found i within at; absent = tt }
  searched (Err i) within parted =
      let p = parted (searchable_from_sorted o (λ (s : S). (entry s).0) ss k rises) in
      record { found = tt; absent = absent i within p.0 p.1 }

-- ---- the key's seat, found or made

-- a write over what was just put in
set-insert : {A : Type 0} (xs : List A) (i : ℕ) (x y : A) → i ≤ length xs → set (insert xs i x) i y ≡ insert xs i y
set-insert xs zero x y h = refl
set-insert [] (suc i) x y h = absurd (omega arith)
set-insert (z ∷ xs) (suc i) x y h = ap (λ ys. z ∷ ys) (set-insert xs i x y (omega arith))

get-inserted : {A : Type 0} (xs : List A) (i : ℕ) (x : A) → i ≤ length xs → slice_get (insert xs i x) i ≡ Some x
get-inserted xs zero x h = refl
get-inserted [] (suc i) x h = absurd (omega arith)
get-inserted (z ∷ xs) (suc i) x h = get-inserted xs i x (omega arith)

map-insert : {A B : Type 0} (f : A → B) (xs : List A) (i : ℕ) (x : A) → map f (insert xs i x) ≡ insert (map f xs) i (f x)
map-insert f xs i x = map-append f (take i xs) (x ∷ drop i xs) ∙ (λ t. sym (take-map f i xs) t ++ f x ∷ sym (drop-map f i xs) t)

module _ {K X S : Type 0} {R : K → K → Ordering} (o : IsTotalOrder R) (entry : S → K × X) (k : K) (ss : List S) (i : ℕ) where
  pub gap_within : IsGap R entry k ss i → i ≤ length ss
  gap_within h = simp length-map at (place_within o k (map entry ss) i h.0)

  module _ (sorted : T (is_sorted R (map entry ss))) (h : IsGap R entry k ss i) where
    not_there : find R k (map entry ss) ≡ None
    not_there = none_there o k (map entry ss) sorted i h.0 h.1

    pub none_seen : get (from_sorted {R = R} (map entry ss)) k ≡ None
    none_seen = get-from_sorted R (map entry ss) k sorted ∙ not_there

    pub seat_made : (none : X) (s : S) → (entry s).0 ≡ k → (entry s).1 ≡ none → IsSeat R none k (map entry ss) (map entry (insert ss i s)) i
    seat_made none s key value =
        let es = map entry ss in
        let within = place_within o k es i h.0 in
        let it : IsSeat R none k es (insert es i (k, none)) i = record {
          has = get-inserted es i (k, none) within ∙ (λ t. Some (k, unwrap_or (sym not_there t) none));
          takes = λ v. set-insert es i (k, none) (k, v) within ∙ sym (put_new o k v es i h.0 h.1);
        } in
        subst (λ fs. IsSeat R none k es fs i) (sym (map-insert entry ss i s ∙ (λ t. insert es i (key t, value t)))) it

  pub seat_there : (none : X) → IsAntisymmetric R → IsThere R entry k ss i → IsSeat R none k (map entry ss) (map entry ss) i
  seat_there none same h = by (slice_get es i) refl h.1
    where
      es : List (K × X)
      es = map entry ss

      by : (e : Option (K × X)) → slice_get es i ≡ e → option_map_or (λ e. is_eq (R e.0 k)) e false ≡ true → IsSeat R none k es es i
      by None is here = cc
      by (Some x) is here =
          let tie = equal (R x.0 k) here in
          let key : x.0 ≡ k = same x.0 k tie in
          let value : x.1 ≡ unwrap_or (find R k es) none = sym (ap (λ p. unwrap_or p none) (find_there o k es i x h.0 is tie)) in
          record {
            has = is ∙ (λ t. Some (key t, value t));
            takes = λ v. (λ t. set es i (sym key t, v)) ∙ sym (put_there o k v es i x h.0 is tie);
          }

-- whether a search finds the key
module _ {K X S : Type 0} {R : K → K → Ordering} (o : IsTotalOrder R) (entry : S → K × X) (k : K) (ss : List S) (sorted : T (is_sorted R (map entry ss))) where
  there_found : (i : ℕ) → IsThere R entry k ss i → is_some (find R k (map entry ss)) ≡ true
  there_found i h = by (slice_get (map entry ss) i) refl h.1
    where
      by : (e : Option (K × X)) → slice_get (map entry ss) i ≡ e → option_map_or (λ e. is_eq (R e.0 k)) e false ≡ true → is_some (find R k (map entry ss)) ≡ true
      by None is here = cc
      by (Some x) is here = ap is_some (find_there o k (map entry ss) i x h.0 is (equal (R x.0 k) here))

  pub found_or_not : (r : Result ℕ ℕ) → IfOk r (IsThere R entry k ss) → IfErr r (IsGap R entry k ss) → is_ok r ≡ is_some (get (from_sorted {R = R} (map entry ss)) k)
  found_or_not (Ok i) there gap = sym (ap is_some (get-from_sorted R (map entry ss) k sorted) ∙ there_found i there)
  found_or_not (Err i) there gap = sym (ap is_some (none_seen o entry k ss i sorted gap))

module _ {K X S : Type 0} {R : K → K → Ordering} (o : IsTotalOrder R) (entry : S → K × X) (none : X) (k : K) (es : List (K × X)) (ss : List S) (i : ℕ) (s : S) (seat : IsSeat R none k es (map entry ss) i) (is : s ≡ get_or ss i s) where
  here : ◌≡◌ {A = K × X} (entry s) (k, unwrap_or (find R k es) none)
  here =
      let within : i < length ss = simp length-map at (slice_get_within (map entry ss) i (k, unwrap_or (find R k es) none) seat.has) in
      same_Some _ _ (sym (entry_read entry ss i s within is) ∙ seat.has)

  pub seat_key : (entry s).0 ≡ k
  seat_key = ap (λ (e : K × X). e.0) here

  pub read_seen : T (is_sorted R es) → (entry s).1 ≡ unwrap_or (get (from_sorted {R = R} es) k) none
  read_seen sorted = ap (λ (e : K × X). e.1) here ∙ ap (λ p. unwrap_or p none) (sym (get-from_sorted R es k sorted))

  module _ (x : S) (v : X) (key : (entry x).0 ≡ (entry s).0) (value : (entry x).1 ≡ v) (sorted : T (is_sorted R es)) where
    -- what is written over the element of the key
    written : map entry (set ss i x) ≡ put R k v es
    written = map-set entry ss i x ∙ (λ t. set (map entry ss) i ((key ∙ seat_key) t, value t)) ∙ seat.takes v

    pub written_sorted : T (is_sorted R (map entry (set ss i x)))
    written_sorted = subst (λ fs. T (is_sorted R fs)) (sym written) (is_sorted-put R o k v es sorted)

    pub written_seen : from_sorted {R = R} (map entry (set ss i x)) ≡ map_insert (from_sorted es) k v
    written_seen =
        same_entries_map _ _ (ap (λ fs. entries (from_sorted {R = R} fs)) written ∙ entries-from_sorted R _ (is_sorted-put R o k v es sorted)
        ∙ ap (put R k v) (sym (entries-from_sorted R es sorted)) ∙ sym (entries-insert o (from_sorted es) k v))

-- what is so of a key and a value, said of other names of them
pub carried : {K X : Type 0} (P : K → X → Type 0) (u v : X) (k j : K) → v ≡ u → k ≡ j → P k u → P j v
carried P u v k j values keys h = subst (λ q. P q v) keys (subst (P k) (sym values) h)

-- ---- the list, seen as a map

module _ {K X : Type 0} (R : K → K → Ordering) where
  pub nothing_seen : ◌≡◌ {A = FinMap R X} (from_sorted []) empty
  nothing_seen = empty_of_len (from_sorted {R = R} []) (len-entries (from_sorted {R = R} []) ∙ ap length (entries-from_sorted R [] tt))

module _ {K X S : Type 0} (R : K → K → Ordering) (entry : S → K × X) (ss : List S) (m : FinMap R X) (sorted : T (is_sorted R (map entry ss))) (is : from_sorted (map entry ss) ≡ m) where
  -- what `get` finds in the list
  pub element_seen : (i : ℕ) (r : Option (Bor S)) → IsGetResult ss i i r → option_map entry (option_copied r) ≡ slice_get (entries m) i
  element_seen i r found =
      ap (option_map entry) (copied ss i r found) ∙ sym (slice_get-map entry ss i)
      ∙ ap (λ es. slice_get es i) (sym (entries-from_sorted R (map entry ss) sorted) ∙ ap entries is)
    where
      copied : (xs : List S) (j : ℕ) (p : Option (Bor S)) → IsGetResult xs j j p → option_copied p ≡ slice_get xs j
      copied xs j None h = sym (slice_get_past xs j h.3)
      copied xs j (Some x) h = sym (slice_get_read xs (length xs) j x.now refl h.3.0 h.1)

  pub elements_counted : len m ≡ length ss
  elements_counted = ap len (sym is) ∙ len-entries (from_sorted {R = R} (map entry ss)) ∙ ap length (entries-from_sorted R (map entry ss) sorted) ∙ length-map ss entry

  -- what stands at an index of the list
  pub entry_seen : (i : ℕ) (r : Option (Bor S)) → option_copied r ≡ slice_get ss i → option_map entry (option_copied r) ≡ slice_get (entries m) i
  entry_seen i r got =
      ap (option_map entry) got ∙ sym (slice_get-map entry ss i) ∙ ap (λ es. slice_get es i) (sym (entries-from_sorted R (map entry ss) sorted) ∙ ap entries is)
