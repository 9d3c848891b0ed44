-- A swap under one key leaves what is found by those that don't name it.
use Rattle.std.proofs.Common.{◌≡◌, ℕ, zero, suc, ◌+◌, ◌&&◌, Bool, true, false, cond, find, List, [], ◌∷◌, map, Option, Some, None, slice_get, unwrap_or, refl, sym, ap, ◌∙◌}
use Rattle.std.specs.Cmp.{IsTotalOrder}
use Rattle.std.specs.FinMap.{FinMap, IsAntisymmetric, entries, entries-insert, get, get-insert, get-remove, get_tied, insert, remove, same_map}
use Rattle.std.specs.FinMap.Entries.{by_order, put}
use Rattle.std.specs.List.{cons_option, enumerate_from, filter, filter_map, flat_map}
use Rattle.std.specs.Option.{option_map}
use Rattle.std.specs.Ordering.{eq_by_cmp}
use Rattle.std.specs.declared.cmp.Ordering.{Ordering}
use Rattle.std.specs.declared.cmp.Ordering.TheVariants.{Less, Equal, Greater}
use Rattle.ent_values.specs.declared.value.Value.{Value}
use Rattle.ent_policy.specs.Constraints.{meets}
use Rattle.ent_policy.specs.declared.document.Tree.{Tree}
use Rattle.ent_policy.specs.declared.key.DocKey.{DocKey}
use Rattle.ent_policy.specs.declared.key.Reference.{Reference}
use Rattle.ent_finder.proofs.Keys.{key_cmp_antisymmetric}
use Rattle.ent_finder.proofs.RowKeys.{row_cmp_antisymmetric}
use Rattle.ent_finder.proofs.Sorted.{equal}
use Rattle.ent_finder.specs.Finding.{is_latest, is_of, most_recent, named, names}
use Rattle.ent_finder.specs.Law.{SwapLeavesOtherReferences}
use Rattle.ent_finder.specs.LawOfRows.{SwapLeavesOtherKeys}
use Rattle.ent_finder.specs.Looking.{names_row, values_of, values_of_each}
use Rattle.ent_finder.specs.Rows.{Rows, Source, is_filled, supports, with_row, with_values_in}
use Rattle.ent_finder.proofs.Totals.{row_cmp_total, key_cmp_total}
use Rattle.ent_finder.specs.Slots.{Docs, with_document, with_document_in}
use Rattle.ent_finder.specs.declared.row.AttrKey.{AttrKey}
use Rattle.ent_finder.specs.declared.row.RowKey.{RowKey}

twice : {A : Type 0} (b : Bool) (x y z : A) → cond b x (cond b y z) ≡ cond b x z
twice true x y z = refl
twice false x y z = refl

-- ---- the entries that a test picks by their keys, where it doesn't pick this key

module _ {K X : Type 0} {R : K → K → Ordering} (o : IsTotalOrder R) (same : IsAntisymmetric R) (p : K → Bool) (k : K) (off : p k ≡ false) where
  abbrev picked : List (K × X) → List (K × X)
  picked es = filter (λ e. p e.0) es

  put_elsewhere : (v : X) (es : List (K × X)) → picked (put R k v es) ≡ picked es
  put_elsewhere v [] = ap (λ b. cond b ((k, v) ∷ []) []) off
  put_elsewhere v (e ∷ es) = by (R k e.0) refl (put_elsewhere v es) where
    by : (r : Ordering) → R k e.0 ≡ r → picked (put R k v es) ≡ picked es → picked (by_order r ((k, v) ∷ e ∷ es) ((e.0, v) ∷ es) (e ∷ put R k v es)) ≡ picked (e ∷ es)
    by Less is rest = ap (λ b. cond b ((k, v) ∷ picked (e ∷ es)) (picked (e ∷ es))) off
    by Equal is rest =
        let here : p e.0 ≡ false = ap p (sym (same k e.0 is)) ∙ off in
        ap (λ b. cond b ((e.0, v) ∷ picked es) (picked es)) here ∙ sym (ap (λ b. cond b (e ∷ picked es) (picked es)) here)
    by Greater is rest = ap (λ es'. cond (p e.0) (e ∷ es') es') rest

  pub inserted_elsewhere : (m : FinMap R X) (v : X) → picked (entries (insert m k v)) ≡ picked (entries m)
  inserted_elsewhere m v = ap picked (entries-insert o m k v) ∙ put_elsewhere v (entries m)

  -- a key that is taken away and put there again
  again : (m : FinMap R X) (v : X) → insert (remove m k) k v ≡ insert m k v
  again m v = same_map o same _ _
      (λ q. get-insert o (remove m k) k v q ∙ ap (cond (eq_by_cmp R q k) (Some v)) (get-remove o m k q)
      ∙ twice (eq_by_cmp R q k) (Some v) None (get m q) ∙ sym (get-insert o m k v q))

  -- a key that isn't there is taken away
  none_gone : (m : FinMap R X) → get m k ≡ None → remove m k ≡ m
  none_gone m none = same_map o same _ m (λ q. get-remove o m k q ∙ by q (eq_by_cmp R q k) refl) where
    by : (q : K) (b : Bool) → eq_by_cmp R q k ≡ b → cond b None (get m q) ≡ get m q
    by q true t = sym (sym (get_tied o m q k (equal _ t)) ∙ none)
    by q false t = refl

  pub removed_elsewhere : (m : FinMap R X) → picked (entries (remove m k)) ≡ picked (entries m)
  removed_elsewhere m = by (get m k) refl where
    by : (u : Option X) → get m k ≡ u → picked (entries (remove m k)) ≡ picked (entries m)
    by None is = ap (λ (r : FinMap R X). picked (entries r)) (none_gone m is)
    by (Some v) is =
        sym (inserted_elsewhere (remove m k) v) ∙ ap (λ (r : FinMap R X). picked (entries r)) (again m v) ∙ inserted_elsewhere m v

-- ---- documents

module _ (r : Reference) (k : DocKey) (document : Option Tree) (off : is_of r k ≡ false) where
  not_named : names r k ≡ false
  not_named = ap (λ b. b && meets r.constraints k.version) off

  named_elsewhere : (document : Option Tree) (docs : Docs) → named r (with_document docs k document) ≡ named r docs
  named_elsewhere None docs = removed_elsewhere key_cmp_total key_cmp_antisymmetric (names r) k not_named docs
  named_elsewhere (Some d) docs = inserted_elsewhere key_cmp_total key_cmp_antisymmetric (names r) k not_named docs d

  recent_elsewhere : (docs : Docs) → most_recent r (with_document docs k document) ≡ most_recent r docs
  recent_elsewhere docs = ap (λ es. option_map (λ e. e.1) (find (is_latest es) es)) (named_elsewhere document docs)

  -- the answers of modules that are counted from n
  abbrev answers : ℕ → List Docs → List (ℕ × Tree)
  answers n modules = filter_map (λ m. option_map (λ d. (m.0, d)) (most_recent r m.1)) (enumerate_from n modules)

  same_answers : (n : ℕ) (modules : List Docs) (number : ℕ) → answers n (with_document_in modules number k document) ≡ answers n modules
  same_answers n [] number = refl
  same_answers n (m ∷ ms) zero = ap (λ found. cons_option (option_map (λ d. (n, d)) found) (answers (n + 1) ms)) (recent_elsewhere m)
  same_answers n (m ∷ ms) (suc number) = ap (λ rest. cons_option (option_map (λ d. (n, d)) (most_recent r m)) rest) (same_answers (n + 1) ms number)

pub same_resolved : SwapLeavesOtherReferences
same_resolved r modules number k document off = ap (λ answers. slice_get answers 0) (same_answers r k document off 0 modules number)

-- ---- values

module _ (key : AttrKey) (k : RowKey) (vs : List Value) (off : names_row key k ≡ false) where
  rows_elsewhere : (vs : List Value) (rows : Rows) → values_of key (with_row rows k vs) ≡ values_of key rows
  rows_elsewhere [] rows = ap (flat_map (λ e. e.1)) (removed_elsewhere row_cmp_total row_cmp_antisymmetric (names_row key) k off rows)
  rows_elsewhere (v ∷ vs) rows = ap (flat_map (λ e. e.1)) (inserted_elsewhere row_cmp_total row_cmp_antisymmetric (names_row key) k off rows (v ∷ vs))

  abbrev values_in : List Source → List (List Value)
  values_in ss = map (λ (s : Source). values_of key s.rows) ss

  -- the modules with the other values in one of them
  abbrev changed : List Source → ℕ → List Source
  changed ss n = with_values_in ss n k vs

  same_each : (ss : List Source) (n : ℕ) → values_of_each key (changed ss n) ≡ values_of_each key ss
  same_each [] n = refl
  same_each (s ∷ ss) zero = by (supports key.category s) where
    by : (b : Bool) → values_in (cond b (record s { rows = with_row s.rows k vs } ∷ filter (supports key.category) ss) (filter (supports key.category) ss)) ≡ values_in (cond b (s ∷ filter (supports key.category) ss) (filter (supports key.category) ss))
    by true = ap (λ v. v ∷ values_of_each key ss) (rows_elsewhere vs s.rows)
    by false = refl
  same_each (s ∷ ss) (suc n) = by (supports key.category s) (same_each ss n) where
    by : (b : Bool) → values_of_each key (changed ss n) ≡ values_of_each key ss
        → values_in (cond b (s ∷ filter (supports key.category) (changed ss n)) (filter (supports key.category) (changed ss n)))
        ≡ values_in (cond b (s ∷ filter (supports key.category) ss) (filter (supports key.category) ss))
    by true rest = ap (λ l. values_of key s.rows ∷ l) rest
    by false rest = rest

pub same_looked : SwapLeavesOtherKeys
same_looked key ss n k vs off = ap (λ vss. unwrap_or (find is_filled vss) []) (same_each key k vs off ss n)
