-- Lists of numbers that strictly rise, seen as sets.
use Rattle.std.proofs.Common.{◌≡◌, ◌↔◌, ℕ, zero, suc, Bool, true, false, cond, not, T, List, [], ◌∷◌, ◌++◌, map, length, take, drop, is_some, Option, Some, None, Result, IfOk, IfErr, is_ok, refl, sym, ap, subst, ◌∙◌, arith}
use Rattle.std.specs.Cmp.{IsTotalOrder, eq_by_cmp_equiv, nat_cmp_total}
use Rattle.std.specs.FinMap.{nat_cmp-IsAntisymmetric, entries, entries-from_sorted, entries-insert, find, from_sorted, get, get-from_sorted, get-insert, get-remove, get-retain_keys, is_sorted, put, retain_keys, same_entries_map, same_map}
use Rattle.std.specs.FinMap.Entries.{below_all, find-where_key, is_sorted-put, is_sorted-where_key, where_key}
use Rattle.std.specs.List.{drop-map, filter, insert, remove, take-map}
use Rattle.std.specs.List.Sorted.{IsBinarySearchResult, IsSearchInRange}
use Rattle.std.specs.Ordering.{eq_by_cmp, is_eq, is_lt, nat_cmp, ordering_reverse}
use Rattle.std.proofs.lemmas.Cmp.{tied_back}
use Rattle.std.specs.declared.cmp.Ordering.{Ordering}
use Rattle.std.specs.declared.cmp.Ordering.TheVariants.{Less, Equal, Greater}
use Rattle.std.proofs.lemmas.List.{map-append}
use Rattle.ent_finder.proofs.Seats.{IsGap, IsThere, found_or_not, nothing_seen, searched}
use Rattle.ent_finder.proofs.Sorted.{before_at, equal, first, is_true, less, put_new, second}
use Rattle.ent_finder.specs.proofs_only.Places.{is_at}
use Rattle.ent_index.specs.Cells.{CellSet, has_cell, in_order, no_cells}
use Rattle.ent_index.specs.proofs_only.Stored.{marked}
use Rattle.ent_index.specs.proofs_only.Steps.{with_cell, without_cell}

abbrev pub mark : ℕ → ℕ × Unit {0}
mark cell = (cell, tt)

abbrev pub Rises : List ℕ → Type 0
Rises cells = T (is_sorted nat_cmp (marked cells))

abbrev pub set_of : List ℕ → CellSet
set_of cells = from_sorted (marked cells)

map-insert : {A B : Type 0} (f : A → B) (xs : List A) (i : ℕ) (x : A) → map f (insert xs i x) ≡ insert (map f xs) i (f x)
map-insert f xs i x = map-append f (take i xs) (x ∷ drop i xs) ∙ (λ t. sym (take-map f i xs) t ++ f x ∷ sym (drop-map f i xs) t)

map-remove : {A B : Type 0} (f : A → B) (xs : List A) (i : ℕ) → map f (remove xs i) ≡ remove (map f xs) i
map-remove f xs i = map-append f (take i xs) (drop (suc i) xs) ∙ (λ t. sym (take-map f i xs) t ++ sym (drop-map f (suc i) xs) t)

-- ---- what is there

pub in_order-set_of : (cells : List ℕ) → Rises cells → cells ≡ in_order (set_of cells)
in_order-set_of cells rises = sym (ap (map (λ e. e.0)) (entries-from_sorted nat_cmp (marked cells) rises) ∙ firsts cells)
  where
    firsts : (xs : List ℕ) → map (λ e. e.0) (marked xs) ≡ xs
    firsts [] = refl
    firsts (x ∷ xs) = ap (λ ys. x ∷ ys) (firsts xs)

pub empty_set : set_of [] ≡ no_cells
empty_set = nothing_seen nat_cmp

-- a set with an element isn't empty
pub filled_set : (cell : ℕ) (cells : List ℕ) → Rises (cell ∷ cells) → set_of (cell ∷ cells) ≡ no_cells → ⊥
filled_set cell cells rises is = absurd_cons (in_order-set_of (cell ∷ cells) rises ∙ ap in_order (is ∙ sym empty_set) ∙ sym (in_order-set_of [] tt))
  where
    absurd_cons : cell ∷ cells ≡ [] → ⊥
    absurd_cons e = cc

-- ---- what a search finds

module _ (cells : List ℕ) (cell : ℕ) (rises : Rises cells) where
  pub place : (r : Result ℕ ℕ) → IsSearchInRange r (length cells) → IsBinarySearchResult (λ c. nat_cmp c cell) cells r → record { found : IfOk r (IsThere nat_cmp mark cell cells); absent : IfErr r (IsGap nat_cmp mark cell cells) }
  place = searched nat_cmp_total mark cells cell rises

  pub is_found : (r : Result ℕ ℕ) → IsSearchInRange r (length cells) → IsBinarySearchResult (λ c. nat_cmp c cell) cells r → is_ok r ≡ has_cell (set_of cells) cell
  is_found r within at = let p = place r within at in found_or_not nat_cmp_total mark cell cells rises r p.found p.absent

-- ---- one more

module _ (cells : List ℕ) (cell i : ℕ) (rises : Rises cells) (gap : IsGap nat_cmp mark cell cells i) where
  inserted : marked (insert cells i cell) ≡ put nat_cmp cell tt (marked cells)
  inserted = map-insert mark cells i cell ∙ sym (put_new nat_cmp_total cell tt (marked cells) i gap.0 gap.1)

  pub insert_rises : Rises (insert cells i cell)
  insert_rises = subst (λ es. T (is_sorted nat_cmp es)) (sym inserted) (is_sorted-put nat_cmp nat_cmp_total cell tt (marked cells) rises)

  pub insert_seen : set_of (insert cells i cell) ≡ with_cell (set_of cells) cell
  insert_seen =
      same_entries_map _ _ (entries-from_sorted nat_cmp _ insert_rises ∙ inserted
      ∙ ap (put nat_cmp cell tt) (sym (entries-from_sorted nat_cmp (marked cells) rises)) ∙ sym (entries-insert nat_cmp_total (set_of cells) cell tt))

-- one that is there already
pub insert_there : (cells : CellSet) (cell : ℕ) → has_cell cells cell ≡ true → cells ≡ with_cell cells cell
insert_there cells cell there = same_map nat_cmp_total nat_cmp-IsAntisymmetric _ _ (λ q. at q (get cells q) (eq_by_cmp nat_cmp q cell) refl refl ∙ sym (get-insert nat_cmp_total cells cell tt q))
  where
    filled : (o : Option (Unit {0})) → is_some o ≡ true → o ≡ Some tt
    filled None h = cc
    filled (Some u) h = refl

    at : (q : ℕ) (o : Option (Unit {0})) (b : Bool) → get cells q ≡ o → eq_by_cmp nat_cmp q cell ≡ b → get cells q ≡ cond b (Some tt) (get cells q)
    at q o true is tie = ap (get cells) (nat_cmp-IsAntisymmetric q cell (equal _ tie)) ∙ filled (get cells cell) there
    at q o false is tie = refl

-- ---- one less

-- ---- one less

-- whether k ties with no such key
abbrev other : {K : Type 0} (R : K → K → Ordering) → K → K → Bool
other R k x = not (eq_by_cmp R k x)

module _ {K X : Type 0} {R : K → K → Ordering} (o : IsTotalOrder R) (k : K) where
  kept : (e : K × X) (es fs : List (K × X)) (r : Ordering) → R k e.0 ≡ r → is_eq r ≡ false → where_key R (other R k) es ≡ fs → where_key R (other R k) (e ∷ es) ≡ e ∷ fs
  kept e es fs r is apart rest = ap (λ b. cond (not b) (e ∷ where_key R (other R k) es) (where_key R (other R k) es)) (ap is_eq is ∙ apart) ∙ ap (λ gs. e ∷ gs) rest

  behind : (x : K) (es : List (K × X)) → R k x ≡ Equal → T (below_all R x es) → where_key R (other R k) es ≡ es
  behind x [] tie h = refl
  behind x (e ∷ es) tie h =
      kept e es es Less (o.congr k x e.0 tie ∙ less _ (is_true _ (first (is_lt (R x e.0)) (below_all R x es) h))) refl
      (behind x es tie (second (is_lt (R x e.0)) (below_all R x es) h))

  removed : (es : List (K × X)) (i : ℕ) → T (is_sorted R es) → is_at R k es i ≡ true → where_key R (other R k) es ≡ remove es i
  removed [] i s a = cc
  removed (e ∷ es) zero s a =
      let tie : R k e.0 ≡ Equal = tied_back o e.0 k (equal _ a) in
      ap (λ b. cond (not b) (e ∷ where_key R (other R k) es) (where_key R (other R k) es)) (ap is_eq tie)
      ∙ behind e.0 es tie (first (below_all R e.0 es) (is_sorted R es) s)
  removed (e ∷ es) (suc i) s a =
      kept e es (remove es i) Greater (o.antisymm k e.0 ∙ ap ordering_reverse (less _ (before_at o k (e ∷ es) s 0 (suc i) (omega arith) a))) refl
      (removed es i (second (below_all R e.0 es) (is_sorted R es) s) a)

-- those that pass a test
module _ (p : ℕ → Bool) where
  marked-filter : (cells : List ℕ) → marked (filter p cells) ≡ where_key nat_cmp p (marked cells)
  marked-filter [] = refl
  marked-filter (c ∷ cells) = elim (p c) as (λ b. marked (cond b (c ∷ filter p cells) (filter p cells)) ≡ cond b ((c, tt) ∷ where_key nat_cmp p (marked cells)) (where_key nat_cmp p (marked cells))) [
    | true ↦ ap (λ es. (c, tt) ∷ es) (marked-filter cells)
    | false ↦ marked-filter cells
  ]

  alike : (q x : ℕ) → nat_cmp q x ≡ Equal → p x ≡ p q
  alike q x tie = ap p (sym (nat_cmp-IsAntisymmetric q x tie))

  -- a list that has the entries that pass
  pub retained : (cells left : List ℕ) → Rises cells → marked left ≡ where_key nat_cmp p (marked cells) → Rises left × (set_of left ≡ retain_keys (set_of cells) p)
  retained cells left rises is =
      let sorted = is_sorted-where_key nat_cmp p (marked cells) rises in
      let left_rises : Rises left = subst (λ es. T (is_sorted nat_cmp es)) (sym is) sorted in (
        left_rises,
        same_map nat_cmp_total nat_cmp-IsAntisymmetric _ _ (λ q.
            get-from_sorted nat_cmp (marked left) q left_rises ∙ ap (find nat_cmp q) is
            ∙ find-where_key nat_cmp p q (alike q) (marked cells) ∙ ap (λ o. cond (p q) o None) (sym (get-from_sorted nat_cmp (marked cells) q rises))
            ∙ sym (get-retain_keys (set_of cells) p q (alike q))),
      )

  pub filter_seen : (cells : List ℕ) → Rises cells → Rises (filter p cells) × (set_of (filter p cells) ≡ retain_keys (set_of cells) p)
  filter_seen cells rises = retained cells (filter p cells) rises (marked-filter cells)

module _ (cells : List ℕ) (cell i : ℕ) (rises : Rises cells) (there : IsThere nat_cmp mark cell cells i) where
  taken : Rises (remove cells i) × (set_of (remove cells i) ≡ retain_keys (set_of cells) (λ c. not (eq_by_cmp nat_cmp cell c)))
  taken = retained (λ c. not (eq_by_cmp nat_cmp cell c)) cells (remove cells i) rises (map-remove mark cells i ∙ sym (removed nat_cmp_total cell (marked cells) i rises there.1))

  pub remove_rises : Rises (remove cells i)
  remove_rises = taken.0

  flipped : (b : Bool) (x y : Option (Unit {0})) → cond (not b) x y ≡ cond b y x
  flipped true x y = refl
  flipped false x y = refl

  pub remove_seen : set_of (remove cells i) ≡ without_cell (set_of cells) cell
  remove_seen =
      taken.1 ∙ same_map nat_cmp_total nat_cmp-IsAntisymmetric _ _ (λ q.
      get-retain_keys (set_of cells) (λ c. not (eq_by_cmp nat_cmp cell c)) q (alike (λ c. not (eq_by_cmp nat_cmp cell c)) q)
      ∙ flipped (eq_by_cmp nat_cmp cell q) _ _ ∙ ap (λ b. cond b None (get (set_of cells) q)) ((eq_by_cmp_equiv nat_cmp_total).symm cell q)
      ∙ sym (get-remove nat_cmp_total (set_of cells) cell q))

-- one that isn't there
pub remove_absent : (cells : CellSet) (cell : ℕ) → has_cell cells cell ≡ false → cells ≡ without_cell cells cell
remove_absent cells cell absent = same_map nat_cmp_total nat_cmp-IsAntisymmetric _ _ (λ q. at q (eq_by_cmp nat_cmp q cell) refl ∙ sym (get-remove nat_cmp_total cells cell q))
  where
    none : (o : Option (Unit {0})) → is_some o ≡ false → o ≡ None
    none None h = refl
    none (Some u) h = cc

    at : (q : ℕ) (b : Bool) → eq_by_cmp nat_cmp q cell ≡ b → get cells q ≡ cond b None (get cells q)
    at q true tie = ap (get cells) (nat_cmp-IsAntisymmetric q cell (equal _ tie)) ∙ none (get cells cell) absent
    at q false tie = refl

no_length : (cells : List ℕ) → length cells ≡ 0 → cells ≡ []
no_length [] e = refl
no_length (c ∷ cells) e = absurd (omega arith)

pub empty_iff : (cells : List ℕ) → Rises cells → (length cells ≡ 0) ↔ (set_of cells ≡ no_cells)
empty_iff [] rises = (λ e. empty_set, λ e. refl)
empty_iff (c ∷ cells) rises = (λ e. absurd (omega arith), λ e. absurd (filled_set c cells rises e))

-- one cell
pub one_seen : (cell : ℕ) → set_of (cell ∷ []) ≡ with_cell no_cells cell
one_seen cell =
    same_entries_map _ _ (entries-from_sorted nat_cmp (marked (cell ∷ [])) tt ∙ ap (put nat_cmp cell tt) (sym (ap entries (sym empty_set) ∙ entries-from_sorted nat_cmp [] tt))
    ∙ sym (entries-insert nat_cmp_total no_cells cell tt))
