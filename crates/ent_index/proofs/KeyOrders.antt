-- The order of keys beside the references of a kind and an id.
use Rattle.std.proofs.Common.{◌≡◌, ℕ, Bool, true, false, cond, not, ◌&&◌, T, List, [], ◌∷◌, ◌++◌, arith, length, subst, Option, Some, None, Result, Ok, Err, IfOk, if◌then◌else◌, refl, sym, ap, append-nil, append_assoc, ◌∙◌}
use Rattle.std.specs.Cmp.{IsTotalOrder}
use Rattle.std.specs.BTreeMap.{BTreeMap}
use Rattle.std.specs.BTreeMap.Range.{entries_between}
use Rattle.std.specs.declared.ops.Bound.TheVariants.{Included, Unbounded}
use Rattle.std.specs.FinMap.{empty, entries, entries-insert, from_entries, is_sorted, keys, len-empty, len-entries, put}
use Rattle.std.specs.FinMap.Entries.{below_all, by_order}
use Rattle.std.specs.List.{AllByRecursion, filter}
use Rattle.std.specs.List.Sorted.{IsStrictlySortedBy}
use Rattle.std.specs.Map.{keys_of}
use Rattle.std.specs.Option.{option_cmp}
use Rattle.std.specs.Ordering.{is_eq, is_gt, is_le, is_lt, nat_cmp, ordering_reverse, ordering_then}
use Rattle.std.specs.declared.cmp.Ordering.{Ordering}
use Rattle.std.specs.declared.cmp.Ordering.TheVariants.{Less, Equal, Greater}
use Rattle.std.proofs.lemmas.Cmp.{tied_itself}
use Rattle.std.proofs.lemmas.Option.{same_Some}
use Rattle.std.specs.Cmp.Lexicographic.{nat_list_cmp_total, slice_cmp}
use Rattle.ent_policy.specs.Constraints.{unconstrained}
use Rattle.ent_policy.specs.contracts.key.KindOrd.TheImpl.Laws.{total-law}
use Rattle.ent_policy.specs.contracts.pattern.VersionConstraintsOrd.TheImpl as constraints
use Rattle.ent_policy.specs.contracts.pattern.VersionMatchOrd.TheImpl as patterns
use Rattle.ent_policy.specs.declared.pattern.PatternPart.{PatternPart}
use Rattle.ent_policy.specs.declared.pattern.VersionConstraints.{VersionConstraints}
use Rattle.ent_policy.specs.declared.key.Kind.{Kind}
use Rattle.ent_finder.proofs.Names.{is_of-decides, name_cmp_total, name_tied}
use Rattle.ent_finder.proofs.Orders.{then_assoc, then_less}
use Rattle.ent_finder.proofs.Sorted.{both, first, is_true, less, second}
use Rattle.ent_finder.specs.proofs_only.Order.{Name, kind_cmp, name_cmp}
use Rattle.ent_request.specs.Noted.{read_cmp}
use Rattle.ent_request.specs.declared.key.ReadKey.{ReadKey}
use Rattle.ent_request.specs.declared.key.ReadKey.TheVariants.{Attr, CurrentDate, CurrentDateTime, CurrentTime, Ref, Root}
use Rattle.ent_index.specs.Asked.{asks_policy}
use Rattle.ent_index.proofs.Views.{read_cmp-total}
use Rattle.ent_index.specs.Cells.{CellSet}
use Rattle.ent_index.specs.proofs_only.Asked.{policy_order}
use Rattle.ent_index.specs.proofs_only.Stored.{index_of}

abbrev constraints_cmp : VersionConstraints → VersionConstraints → Ordering
constraints_cmp = (constraints.ghosts).cmp

-- ---- a key's place beside the references of a kind and an id

-- behind what is greater than a name, all is
behind : (a b n : Name) → is_gt (name_cmp a b) ≡ false → name_cmp a n ≡ Greater → name_cmp b n ≡ Greater
behind a b n le g = by (name_cmp a b) refl
  where
    o : IsTotalOrder name_cmp
    o = name_cmp_total

    by : (r : Ordering) → name_cmp a b ≡ r → name_cmp b n ≡ Greater
    by Less e = o.antisymm b n ∙ ap ordering_reverse (o.trans n a b (o.antisymm n a ∙ ap ordering_reverse g) e)
    by Equal e = sym (o.congr a b n e) ∙ g
    by Greater e = absurd (let bad : true ≡ false = ap is_gt (sym e) ∙ le in cc)

pub order_rises : (kind : Kind) (id : List ℕ) (x y : ReadKey) → read_cmp x y ≡ Less → policy_order kind id x ≡ Greater → policy_order kind id y ≡ Greater
order_rises kind id Root y l g = cc
order_rises kind id (Ref a) Root l g = cc
order_rises kind id (Ref a) (Ref b) l g =
    let kinds = kind_cmp a.kind b.kind in
    let ids = slice_cmp nat_cmp a.id b.id in
    let rest = constraints_cmp a.constraints b.constraints in
    behind (a.kind, a.id) (b.kind, b.id) (kind, id) (then_less (ordering_then kinds ids) rest (then_assoc kinds ids rest ∙ l)) g
order_rises kind id (Ref a) (Attr b) l g = refl
order_rises kind id (Ref a) CurrentDate l g = refl
order_rises kind id (Ref a) CurrentTime l g = refl
order_rises kind id (Ref a) CurrentDateTime l g = refl
order_rises kind id (Attr a) Root l g = cc
order_rises kind id (Attr a) (Ref b) l g = cc
order_rises kind id (Attr a) (Attr b) l g = refl
order_rises kind id (Attr a) CurrentDate l g = refl
order_rises kind id (Attr a) CurrentTime l g = refl
order_rises kind id (Attr a) CurrentDateTime l g = refl
order_rises kind id CurrentDate Root l g = cc
order_rises kind id CurrentDate (Ref b) l g = cc
order_rises kind id CurrentDate (Attr b) l g = refl
order_rises kind id CurrentDate CurrentDate l g = refl
order_rises kind id CurrentDate CurrentTime l g = refl
order_rises kind id CurrentDate CurrentDateTime l g = refl
order_rises kind id CurrentTime Root l g = cc
order_rises kind id CurrentTime (Ref b) l g = cc
order_rises kind id CurrentTime (Attr b) l g = refl
order_rises kind id CurrentTime CurrentDate l g = refl
order_rises kind id CurrentTime CurrentTime l g = refl
order_rises kind id CurrentTime CurrentDateTime l g = refl
order_rises kind id CurrentDateTime Root l g = cc
order_rises kind id CurrentDateTime (Ref b) l g = cc
order_rises kind id CurrentDateTime (Attr b) l g = refl
order_rises kind id CurrentDateTime CurrentDate l g = refl
order_rises kind id CurrentDateTime CurrentTime l g = refl
order_rises kind id CurrentDateTime CurrentDateTime l g = refl

pub order_tied : (kind : Kind) (id : List ℕ) (k : ReadKey) → is_eq (policy_order kind id k) ≡ asks_policy kind id k
order_tied kind id Root = refl
order_tied kind id (Ref r) = name_tied (record r { kind = kind; id = id }) (record { kind = r.kind; id = r.id; version = [] })
order_tied kind id (Attr a) = refl
order_tied kind id CurrentDate = refl
order_tied kind id CurrentTime = refl
order_tied kind id CurrentDateTime = refl

-- ---- the first of them

none_first : (v e l : Option (List PatternPart)) → is_le (ordering_then (option_cmp (patterns.ghosts).cmp None v) (ordering_then (option_cmp (patterns.ghosts).cmp None e) (option_cmp (patterns.ghosts).cmp None l))) ≡ true
none_first None None None = refl
none_first None None (Some l) = refl
none_first None (Some e) l = refl
none_first (Some v) e l = refl

pub first_of : (kind : Kind) (id : List ℕ) (k : ReadKey) → asks_policy kind id k ≡ true → is_le (read_cmp (Ref (record { kind = kind; id = id; constraints = unconstrained })) k) ≡ true
first_of kind id Root h = cc
first_of kind id (Ref r) h =
    let named = (is_of-decides (record r { kind = kind; id = id }) (record { kind = r.kind; id = r.id; version = [] })).0 h in
    let kinds : kind_cmp kind r.kind ≡ Equal = ap (λ x. kind_cmp x r.kind) named.0 ∙ tied_itself total-law r.kind in
    let ids : slice_cmp nat_cmp id r.id ≡ Equal = ap (λ x. slice_cmp nat_cmp x r.id) named.1 ∙ tied_itself nat_list_cmp_total r.id in
    (λ i. is_le (ordering_then (kinds i) (ordering_then (ids i) (constraints_cmp unconstrained r.constraints))))
    ∙ none_first r.constraints.version r.constraints.earliest r.constraints.latest
first_of kind id (Attr a) h = cc
first_of kind id CurrentDate h = cc
first_of kind id CurrentTime h = cc
first_of kind id CurrentDateTime h = cc

-- every key comes behind the root's
pub first_at_all : (kind : Kind) (id : List ℕ) (k : ReadKey) → asks_policy kind id k ≡ true → is_le (read_cmp Root k) ≡ true
first_at_all kind id Root h = cc
first_at_all kind id (Ref r) h = refl
first_at_all kind id (Attr a) h = cc
first_at_all kind id CurrentDate h = cc
first_at_all kind id CurrentTime h = cc
first_at_all kind id CurrentDateTime h = cc

-- ---- keys in their order, one by one

module _ (kind : Kind) (id : List ℕ) {X : Type 0} where
  abbrev asked : List (ReadKey × X) → List ReadKey
  asked es = filter (asks_policy kind id) (keys_of es)

  pub sorted_rest : (e : ReadKey × X) (es t : List (ReadKey × X)) → es ≡ e ∷ t → T (is_sorted read_cmp es) → T (is_sorted read_cmp t)
  sorted_rest e es t is s = second (below_all read_cmp e.0 t) (is_sorted read_cmp t) (subst (λ xs. T (is_sorted read_cmp xs)) is s)

  at_first : (e : ReadKey × X) (es t : List (ReadKey × X)) (r : Ordering) → es ≡ e ∷ t → policy_order kind id e.0 ≡ r → asked es ≡ cond (is_eq r) (e.0 ∷ asked t) (asked t)
  at_first e es t r is order = ap asked is ∙ ap (λ b. cond b (e.0 ∷ asked t) (asked t)) (sym (order_tied kind id e.0) ∙ ap is_eq order)

  pub before_them : (keys : List ReadKey) (e : ReadKey × X) (es t all : List (ReadKey × X)) → es ≡ e ∷ t → policy_order kind id e.0 ≡ Less → keys ++ asked es ≡ asked all → keys ++ asked t ≡ asked all
  before_them keys e es t all is order so_far = ap (λ ks. keys ++ ks) (sym (at_first e es t Less is order)) ∙ so_far

  pub one_of_them : (keys more : List ReadKey) (e : ReadKey × X) (es t all : List (ReadKey × X)) → es ≡ e ∷ t → policy_order kind id e.0 ≡ Equal → more ≡ keys ++ e.0 ∷ [] → keys ++ asked es ≡ asked all → more ++ asked t ≡ asked all
  one_of_them keys more e es t all is order pushed so_far =
      ap (λ ks. ks ++ asked t) pushed ∙ append_assoc keys (e.0 ∷ []) (asked t) ∙ ap (λ ks. keys ++ ks) (sym (at_first e es t Equal is order)) ∙ so_far

  none_behind : (x : ReadKey) (t : List (ReadKey × X)) → policy_order kind id x ≡ Greater → T (below_all read_cmp x t) → asked t ≡ []
  none_behind x [] order below = refl
  none_behind x (e ∷ t) order below =
      let here : read_cmp x e.0 ≡ Less = less _ (is_true _ (first (is_lt (read_cmp x e.0)) (below_all read_cmp x t) below)) in
      at_first e (e ∷ t) t Greater refl (order_rises kind id x e.0 here order) ∙ none_behind x t order (second (is_lt (read_cmp x e.0)) (below_all read_cmp x t) below)

  pub behind_them : (keys : List ReadKey) (e : ReadKey × X) (es t all : List (ReadKey × X)) → es ≡ e ∷ t → policy_order kind id e.0 ≡ Greater → T (is_sorted read_cmp es) → keys ++ asked es ≡ asked all → keys ≡ asked all
  behind_them keys e es t all is order s so_far =
      let none = at_first e es t Greater is order ∙ none_behind e.0 t order (first (below_all read_cmp e.0 t) (is_sorted read_cmp t) (subst (λ xs. T (is_sorted read_cmp xs)) is s)) in
      sym (ap (λ ks. keys ++ ks) none ∙ append-nil keys) ∙ so_far

-- nothing that is asked comes before the first
pub from_first : {K X : Type 0} (R : K → K → Ordering) (p : K → Bool) (start : K) → ((k : K) → p k ≡ true → is_le (R start k) ≡ true) → (es : List (K × X))
    → filter p (keys_of (entries_between R (Included start) Unbounded es)) ≡ filter p (keys_of es)
from_first R p start after [] = refl
from_first R p start after (e ∷ es) = by (p e.0) (is_le (R start e.0)) refl refl (from_first R p start after es)
  where
    by : (b t : Bool) → p e.0 ≡ b → is_le (R start e.0) ≡ t
        → filter p (keys_of (entries_between R (Included start) Unbounded es)) ≡ filter p (keys_of es)
        → filter p (keys_of (cond (is_le (R start e.0) && not false) (e ∷ entries_between R (Included start) Unbounded es) (entries_between R (Included start) Unbounded es)))
        ≡ cond (p e.0) (e.0 ∷ filter p (keys_of es)) (filter p (keys_of es))
    by true true pe le rest =
        ap (λ t. filter p (keys_of (cond (t && true) (e ∷ entries_between R (Included start) Unbounded es) (entries_between R (Included start) Unbounded es)))) le
        ∙ ap (λ ks. cond (p e.0) (e.0 ∷ ks) ks) rest
    by true false pe le rest = absurd (let bad = sym (after e.0 pe) ∙ le in cc)
    by false true pe le rest =
        ap (λ t. filter p (keys_of (cond (t && true) (e ∷ entries_between R (Included start) Unbounded es) (entries_between R (Included start) Unbounded es)))) le
        ∙ ap (λ ks. cond (p e.0) (e.0 ∷ ks) ks) rest
    by false false pe le rest =
        ap (λ t. filter p (keys_of (cond (t && true) (e ∷ entries_between R (Included start) Unbounded es) (entries_between R (Included start) Unbounded es)))) le
        ∙ rest ∙ ap (λ b. cond b (e.0 ∷ filter p (keys_of es)) (filter p (keys_of es))) (sym pe)

-- ---- entries in the order of their keys

module _ {K X : Type 0} {R : K → K → Ordering} (o : IsTotalOrder R) where
  put_first : (e : K × X) (es : List (K × X)) → T (below_all R e.0 es) → put R e.0 e.1 es ≡ e ∷ es
  put_first e [] h = refl
  put_first e (f ∷ es) h = ap (λ r. by_order r ((e.0, e.1) ∷ f ∷ es) ((f.0, e.1) ∷ es) (f ∷ put R e.0 e.1 es)) (less _ (is_true _ (first (is_lt (R e.0 f.0)) (below_all R e.0 es) h)))

  no_length : (es : List (K × X)) → length es ≡ 0 → es ≡ []
  no_length [] e = refl
  no_length (x ∷ es) e = absurd (omega arith)

  pub entries-from_entries : (es : List (K × X)) → T (is_sorted R es) → entries (from_entries {R = R} es) ≡ es
  entries-from_entries [] s = no_length _ (sym (len-entries (empty {X = X} {R = R})) ∙ len-empty R X)
  entries-from_entries (e ∷ es) s =
      entries-insert o (from_entries es) e.0 e.1 ∙ ap (put R e.0 e.1) (entries-from_entries es (second (below_all R e.0 es) (is_sorted R es) s))
      ∙ put_first e es (first (below_all R e.0 es) (is_sorted R es) s)

-- the order that a map's clauses speak of
module _ {K X : Type 0} (R : K → K → Ordering) where
  below_from : (x : K) (es : List (K × X)) → AllByRecursion (λ y. R x y ≡ Less) (keys_of es) → T (below_all R x es)
  below_from x [] h = tt
  below_from x (e ∷ es) h = both (is_lt (R x e.0)) (below_all R x es) (subst (λ r. T (is_lt r)) (sym h.0) tt) (below_from x es h.1)

  pub is_sorted-from_ordered : (es : List (K × X)) → IsStrictlySortedBy R (keys_of es) → T (is_sorted R es)
  unfolding IsStrictlySortedBy
  is_sorted-from_ordered [] s = tt
  is_sorted-from_ordered (e ∷ es) s = both (below_all R e.0 es) (is_sorted R es) (below_from e.0 es s.0) (is_sorted-from_ordered es s.1)

-- ---- the keys of an index

pub keys-index_of : (readers : BTreeMap ReadKey CellSet) → T (is_sorted read_cmp readers.entries) → keys (index_of readers) ≡ keys_of readers.entries
keys-index_of readers s = ap keys_of (entries-from_entries read_cmp-total readers.entries s)

pub if_ok_also : {A E : Type 0} {P Q : A → Type 0} (r : Result A E) → ((a : A) → P a → Q a) → IfOk r P → IfOk r Q
if_ok_also (Ok a) f h = f a h
if_ok_also (Err e) f h = h

-- an id that is a name is the text
pub name_is : (bad : Bool) (text id : List ℕ) → Some id ≡ (if bad then None else Some text) → id ≡ text
name_is true text id e = cc
name_is false text id e = same_Some id text e
