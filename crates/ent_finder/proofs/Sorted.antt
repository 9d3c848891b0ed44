-- Entries in the order of their keys: what stands at the place of a key, and what `find` and `put` do there.
use Rattle.std.proofs.Common.{◌≡◌, ℕ, zero, suc, ◌+◌, ◌<◌, ◌≤◌, Bool, true, false, cond, ◌&&◌, T, List, [], ◌∷◌, map, length, Option, Some, None, slice_get, slice_index_or as get_or, slice_set as set, refl, sym, ap, ◌∙◌, arith}
use Rattle.std.specs.Cmp.{IsTotalOrder}
use Rattle.std.specs.FinMap.{find, is_sorted, put}
use Rattle.std.specs.FinMap.Entries.{below_all, by_order}
use Rattle.std.specs.List.{insert}
use Rattle.std.specs.Option.{option_map, option_map_or}
use Rattle.std.specs.Ordering.{is_eq, is_lt, ordering_reverse}
use Rattle.std.specs.declared.cmp.Ordering.{Ordering}
use Rattle.std.specs.declared.cmp.Ordering.TheVariants.{Less, Equal, Greater}
use Rattle.std.proofs.lemmas.Cmp.{tied_back}
use Rattle.std.proofs.lemmas.Option.{slice_get_read, slice_get-map}
use Rattle.ent_finder.specs.proofs_only.Places.{IsPlace, is_at, is_before}

pub both : (a b : Bool) → T a → T b → T (a && b)
both true b p q = q
both false b p q = p

pub first : (a b : Bool) → T (a && b) → T a
first true b h = tt
first false b h = absurd h

pub second : (a b : Bool) → T (a && b) → T b
second true b h = h
second false b h = absurd h

pub less : (r : Ordering) → is_lt r ≡ true → r ≡ Less
less Less h = refl
less Equal h = cc
less Greater h = cc

pub equal : (r : Ordering) → is_eq r ≡ true → r ≡ Equal
equal Less h = cc
equal Equal h = refl
equal Greater h = cc

pub greater : (r : Ordering) → is_lt r ≡ false → is_eq r ≡ false → r ≡ Greater
greater Less h g = cc
greater Equal h g = cc
greater Greater h g = refl

pub unlike : (b : Bool) → (b ≡ true → false ≡ true) → b ≡ false
unlike true h = sym (h refl)
unlike false h = refl

pub is_true : (b : Bool) → T b → b ≡ true
is_true true h = refl
is_true false h = absurd h

-- what stands at an index
pub element : {A : Type 0} (xs : List A) (i : ℕ) → i < length xs → (x : A) × (x ≡ get_or xs i x)
element [] i h = absurd (omega arith)
element (x ∷ xs) zero h = (x, refl)
element (x ∷ xs) (suc i) h = element xs i (omega arith)

module _ {K X S : Type 0} (R : K → K → Ordering) (entry : S → K × X) where
  further : (x : S) (xs : List S) (k : ℕ) (d : S) → get_or (x ∷ xs) (suc k + 1) d ≡ get_or xs (k + 1) d
  further x xs k d = ap (λ n. get_or (x ∷ xs) n d) (let more : suc k + 1 ≡ suc (k + 1) = omega arith in more)

  -- each key comes before the next one
  pub adjacent : (xs : List S) (k : ℕ) (d : S) → T (is_sorted R (map entry xs)) → k + 1 < length xs → R (entry (get_or xs k d)).0 (entry (get_or xs (k + 1) d)).0 ≡ Less
  adjacent [] k d s lt = absurd (omega arith)
  adjacent (x ∷ []) k d s lt = absurd (omega arith)
  adjacent (x ∷ y ∷ xs) zero d s lt =
      less _ (is_true _ (first (is_lt (R (entry x).0 (entry y).0)) (below_all R (entry x).0 (map entry xs)) (first (below_all R (entry x).0 (map entry (y ∷ xs))) (is_sorted R (map entry (y ∷ xs))) s)))
  adjacent (x ∷ y ∷ xs) (suc k) d s lt =
      ap (λ z. R (entry (get_or (y ∷ xs) k d)).0 (entry z).0) (further x (y ∷ xs) k d) ∙ (adjacent (y ∷ xs) k d (second (below_all R (entry x).0 (map entry (y ∷ xs))) (is_sorted R (map entry (y ∷ xs))) s) (omega arith))

module _ {K X S : Type 0} (entry : S → K × X) where
  -- an entry is read where its element stands
  pub entry_read : (xs : List S) (i : ℕ) (x : S) → i < length xs → x ≡ get_or xs i x → slice_get (map entry xs) i ≡ Some (entry x)
  entry_read xs i x h is = slice_get-map entry xs i ∙ ap (option_map entry) (slice_get_read xs (length xs) i x refl h is)

module _ {K : Type 0} {R : K → K → Ordering} (o : IsTotalOrder R) where
  -- the other way round
  turned : (x y : K) (r : Ordering) → R x y ≡ r → R y x ≡ ordering_reverse r
  turned x y r e = o.antisymm y x ∙ ap ordering_reverse e

  -- of a key that comes before all keys of a list, and of a key behind one of them
  pub below_first : {X : Type 0} (x k : K) (es : List (K × X)) (i : ℕ) → T (below_all R x es) → is_before R k es i ≡ true → R x k ≡ Less
  below_first x k [] i h b = cc
  below_first x k (e ∷ es) zero h b = o.trans x e.0 k (less _ (is_true _ (first (is_lt (R x e.0)) (below_all R x es) h))) (less _ b)
  below_first x k (e ∷ es) (suc i) h b = below_first x k es i (second (is_lt (R x e.0)) (below_all R x es) h) b

  -- where a key comes before k, so do all keys in front of it
  pub before_rises : {X : Type 0} (k : K) (es : List (K × X)) → T (is_sorted R es) → (j i : ℕ) → j ≤ i → is_before R k es i ≡ true → is_before R k es j ≡ true
  before_rises k [] s j i le b = b
  before_rises k (e ∷ es) s zero zero le b = b
  before_rises k (e ∷ es) s zero (suc i) le b = ap is_lt (below_first e.0 k es i (first (below_all R e.0 es) (is_sorted R es) s) b)
  before_rises k (e ∷ es) s (suc j) zero le b = absurd (omega arith)
  before_rises k (e ∷ es) s (suc j) (suc i) le b = before_rises k es (second (below_all R e.0 es) (is_sorted R es) s) j i (omega arith) b

  -- where none comes before k, none does behind it
  pub not_before_rises : {X : Type 0} (k : K) (es : List (K × X)) → T (is_sorted R es) → (j i : ℕ) → j ≤ i → is_before R k es j ≡ false → is_before R k es i ≡ false
  not_before_rises k es s j i le none = unlike (is_before R k es i) (λ b. sym none ∙ before_rises k es s j i le b)

  -- of a key that comes before all keys of a list, and of one that is among them
  first_below_at : {X : Type 0} (x k : K) (es : List (K × X)) (i : ℕ) → T (below_all R x es) → is_at R k es i ≡ true → R x k ≡ Less
  first_below_at x k [] i h b = cc
  first_below_at x k (e ∷ es) zero h b =
      turned k x Greater (o.congr k e.0 x (tied_back o e.0 k (equal _ b)) ∙ turned x e.0 Less (less _ (is_true _ (first (is_lt (R x e.0)) (below_all R x es) h))))
  first_below_at x k (e ∷ es) (suc i) h b = first_below_at x k es i (second (is_lt (R x e.0)) (below_all R x es) h) b

  -- where the key is k, all keys in front of it come before k
  pub before_at : {X : Type 0} (k : K) (es : List (K × X)) → T (is_sorted R es) → (j i : ℕ) → j < i → is_at R k es i ≡ true → is_before R k es j ≡ true
  before_at k [] s j i lt a = a
  before_at k (e ∷ es) s j zero lt a = absurd (omega arith)
  before_at k (e ∷ es) s zero (suc i) lt a = ap is_lt (first_below_at e.0 k es i (first (below_all R e.0 es) (is_sorted R es) s) a)
  before_at k (e ∷ es) s (suc j) (suc i) lt a = before_at k es (second (below_all R e.0 es) (is_sorted R es) s) j i (omega arith) a

  -- a key that comes before all keys of a list isn't among them
  pub none_below : {X : Type 0} (k x : K) (es : List (K × X)) → R k x ≡ Less → T (below_all R x es) → find R k es ≡ None
  none_below k x [] l h = refl
  none_below k x (e ∷ es) l h =
      let here : R k e.0 ≡ Less = o.trans k x e.0 l (less _ (is_true _ (first (is_lt (R x e.0)) (below_all R x es) h))) in
      ap (λ r. cond (is_eq r) (Some e.1) (find R k es)) here ∙ none_below k x es l (second (is_lt (R x e.0)) (below_all R x es) h)

  -- a key that ties with one below all keys isn't among them
  pub none_tied : {X : Type 0} (k x : K) (es : List (K × X)) → R k x ≡ Equal → T (below_all R x es) → find R k es ≡ None
  none_tied k x [] t h = refl
  none_tied k x (e ∷ es) t h =
      let here : R k e.0 ≡ Less = o.congr k x e.0 t ∙ less _ (is_true _ (first (is_lt (R x e.0)) (below_all R x es) h)) in
      ap (λ r. cond (is_eq r) (Some e.1) (find R k es)) here ∙ none_tied k x es t (second (is_lt (R x e.0)) (below_all R x es) h)

  module _ {X : Type 0} (k : K) where
    tail_place : (e : K × X) (es : List (K × X)) (p : ℕ) → IsPlace R k (e ∷ es) (suc p) → IsPlace R k es p
    tail_place e es p at = record {
      in_front = λ i lt. at.in_front (suc i) (omega arith);
      from_there = λ i le. at.from_there (suc i) (omega arith);
    }

    -- the first entry comes before k, where its place is further on
    passed : (e : K × X) (es : List (K × X)) (p : ℕ) → IsPlace R k (e ∷ es) (suc p) → R k e.0 ≡ Greater
    passed e es p at = turned e.0 k Less (less _ (at.in_front 0 (omega arith)))

    -- the first entry comes behind k, where its place is here and its key isn't k
    behind : (e : K × X) (es : List (K × X)) → IsPlace R k (e ∷ es) 0 → is_at R k (e ∷ es) 0 ≡ false → R k e.0 ≡ Less
    behind e es at free = turned e.0 k Greater (greater _ (at.from_there 0 (omega arith)) free)

    tied : (e x : K × X) → Some e ≡ Some x → R x.0 k ≡ Equal → R k e.0 ≡ Equal
    tied e x is t = tied_back o e.0 k (let same : e ≡ x = grind arith in ap (λ (y : K × X). R y.0 k) same ∙ t)

    -- what is found at the key's place
    pub find_there : (es : List (K × X)) (p : ℕ) (x : K × X) → IsPlace R k es p → slice_get es p ≡ Some x → R x.0 k ≡ Equal → find R k es ≡ Some x.1
    find_there [] p x at is t = cc
    find_there (e ∷ es) zero x at is t =
        ap (λ r. cond (is_eq r) (Some e.1) (find R k es)) (tied e x is t) ∙ (let same : e ≡ x = grind arith in ap (λ (y : K × X). Some y.1) same)
    find_there (e ∷ es) (suc p) x at is t =
        ap (λ r. cond (is_eq r) (Some e.1) (find R k es)) (passed e es p at) ∙ find_there es p x (tail_place e es p at) is t

    -- nothing is found, where another entry or none stands at the key's place
    pub none_there : (es : List (K × X)) → T (is_sorted R es) → (p : ℕ) → IsPlace R k es p → is_at R k es p ≡ false → find R k es ≡ None
    none_there [] s p at free = refl
    none_there (e ∷ es) s zero at free =
        let l = behind e es at free in
        ap (λ r. cond (is_eq r) (Some e.1) (find R k es)) l ∙ none_below k e.0 es l (first (below_all R e.0 es) (is_sorted R es) s)
    none_there (e ∷ es) s (suc p) at free =
        ap (λ r. cond (is_eq r) (Some e.1) (find R k es)) (passed e es p at) ∙ none_there es (second (below_all R e.0 es) (is_sorted R es) s) p (tail_place e es p at) free

    -- at its place the key's entry gets the new value
    pub put_there : (v : X) (es : List (K × X)) (p : ℕ) (x : K × X) → IsPlace R k es p → slice_get es p ≡ Some x → R x.0 k ≡ Equal → put R k v es ≡ set es p (x.0, v)
    put_there v [] p x at is t = cc
    put_there v (e ∷ es) zero x at is t =
        ap (λ r. by_order r ((k, v) ∷ e ∷ es) ((e.0, v) ∷ es) (e ∷ put R k v es)) (tied e x is t) ∙ (let same : e ≡ x = grind arith in ap (λ (y : K × X). (y.0, v) ∷ es) same)
    put_there v (e ∷ es) (suc p) x at is t =
        ap (λ r. by_order r ((k, v) ∷ e ∷ es) ((e.0, v) ∷ es) (e ∷ put R k v es)) (passed e es p at) ∙ ap (λ fs. e ∷ fs) (put_there v es p x (tail_place e es p at) is t)

    -- where its entry isn't there, it comes in at its place
    pub put_new : (v : X) (es : List (K × X)) (p : ℕ) → IsPlace R k es p → is_at R k es p ≡ false → put R k v es ≡ insert es p (k, v)
    put_new v [] zero at free = refl
    put_new v [] (suc p) at free = let bad = at.in_front 0 (omega arith) in cc
    put_new v (e ∷ es) zero at free = ap (λ r. by_order r ((k, v) ∷ e ∷ es) ((e.0, v) ∷ es) (e ∷ put R k v es)) (behind e es at free)
    put_new v (e ∷ es) (suc p) at free =
        ap (λ r. by_order r ((k, v) ∷ e ∷ es) ((e.0, v) ∷ es) (e ∷ put R k v es)) (passed e es p at) ∙ ap (λ fs. e ∷ fs) (put_new v es p (tail_place e es p at) free)

    -- a place is within the list or at its end
    pub place_within : (es : List (K × X)) (p : ℕ) → IsPlace R k es p → p ≤ length es
    place_within es zero at = omega arith
    place_within [] (suc p) at = let bad = at.in_front 0 (omega arith) in cc
    place_within (e ∷ es) (suc p) at = omega (arith, place_within es p (tail_place e es p at))

    -- where the key is, its place is
    pub place_of_key : (es : List (K × X)) → T (is_sorted R es) → (p : ℕ) → is_at R k es p ≡ true → IsPlace R k es p
    place_of_key es s p a = record {
      in_front = λ i lt. before_at k es s i p lt a;
      from_there = λ i le. not_before (is_before R k es i) (λ b. not_both (slice_get es p) (before_rises k es s p i le b) a);
    }
      where
        not_before : (b : Bool) → (b ≡ true → ⊥) → b ≡ false
        not_before true h = absurd (h refl)
        not_before false h = refl

        not_both : (e : Option (K × X)) → option_map_or (λ x. is_lt (R x.0 k)) e false ≡ true → option_map_or (λ x. is_eq (R x.0 k)) e false ≡ true → ⊥
        not_both None b a = cc
        not_both (Some e) b a = let differs : true ≡ false = sym a ∙ ap is_eq (less _ b) in cc
