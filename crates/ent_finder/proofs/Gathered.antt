-- The values of the rows that a key names.
use Rattle.std.proofs.Common.{◌≡◌, ℕ, zero, suc, ◌+◌, ◌<◌, ◌≤◌, Bool, true, false, cond, T, List, [], ◌∷◌, ◌++◌, drop, length, Some, unwrap_or, slice_index_or as get_or, refl, sym, ap, subst, ◌∙◌, arith, append_assoc}
use Rattle.std.specs.FinMap.{entries, entries-from_sorted, entries_sorted, find, get-entries, is_sorted}
use Rattle.std.specs.FinMap.Entries.{below_all}
use Rattle.std.specs.List.{All, filter, flat_map}
use Rattle.std.specs.Ordering.{is_eq, is_lt}
use Rattle.std.specs.declared.cmp.Ordering.{Ordering}
use Rattle.std.specs.declared.cmp.Ordering.TheVariants.{Less, Equal, Greater}
use Rattle.std.proofs.lemmas.List.{append-nil, drop_all, drop_more}
use Rattle.ent_values.specs.declared.value.Value.{Value}
use Rattle.ent_finder.proofs.Filled.{entries-filled}
use Rattle.ent_finder.proofs.RowKeys.{names_one, type_named}
use Rattle.ent_finder.proofs.Sorted.{first, is_true, less, second}
use Rattle.ent_finder.specs.Looking.{names_row, values_of}
use Rattle.ent_finder.specs.RowEntry.{RowsAreSorted, row_entries, row_entry, rows_of}
use Rattle.ent_finder.specs.Rows.{Rows, filled, is_filled, row_cmp, values_at}
use Rattle.ent_finder.proofs.Totals.{row_cmp_total}
use Rattle.ent_finder.specs.declared.row.AttrKey.{AttrKey}
use Rattle.ent_finder.specs.declared.row.Row.{Row}
use Rattle.ent_finder.specs.declared.row.RowKey.{RowKey}

abbrev Entry : Type 0
Entry = RowKey × List Value

abbrev gathered : List Entry → List Value
gathered = flat_map (λ e. e.1)

abbrev pub values_in : List Row → List Value
values_in = flat_map (λ r. r.values)

abbrev pub named_rows : AttrKey → List Row → List Row
named_rows key = filter (λ r. names_row key r.key)

-- ---- empty rows don't count

skipped : (b : Bool) (k : RowKey) (es : List Entry) → gathered es ≡ gathered (cond b ((k, []) ∷ es) es)
skipped true k es = refl
skipped false k es = refl

alike : (b : Bool) (e : Entry) (es fs : List Entry) → gathered es ≡ gathered fs → gathered (cond b (e ∷ es) es) ≡ gathered (cond b (e ∷ fs) fs)
alike true e es fs h = ap (λ vs. e.1 ++ vs) h
alike false e es fs h = h

without_empty : (key : AttrKey) (es : List Entry) → gathered (filter (λ e. names_row key e.0) (filter (λ e. is_filled e.1) es)) ≡ gathered (filter (λ e. names_row key e.0) es)
without_empty key [] = refl
without_empty key ((k, []) ∷ es) = without_empty key es ∙ skipped (names_row key k) k (filter (λ e. names_row key e.0) es)
without_empty key ((k, v ∷ vs) ∷ es) =
    alike (names_row key k) (k, v ∷ vs) (filter (λ e. names_row key e.0) (filter (λ e. is_filled e.1) es)) (filter (λ e. names_row key e.0) es) (without_empty key es)

pub values_of-filled : (key : AttrKey) (m : Rows) → values_of key (filled m) ≡ values_of key m
values_of-filled key m = ap (λ es. gathered (filter (λ e. names_row key e.0) es)) (entries-filled m) ∙ without_empty key (entries m)

-- ---- the same of rows in a list

values_of-entries : (key : AttrKey) (rs : List Row) → gathered (filter (λ e. names_row key e.0) (row_entries rs)) ≡ values_in (named_rows key rs)
values_of-entries key [] = refl
values_of-entries key (r ∷ rs) = by (names_row key r.key) (values_of-entries key rs)
  where
    by : (b : Bool) → gathered (filter (λ e. names_row key e.0) (row_entries rs)) ≡ values_in (named_rows key rs)
        → gathered (cond b (row_entry r ∷ filter (λ e. names_row key e.0) (row_entries rs)) (filter (λ e. names_row key e.0) (row_entries rs))) ≡ values_in (cond b (r ∷ named_rows key rs) (named_rows key rs))
    by true h = ap (λ vs. r.values ++ vs) h
    by false h = h

pub values_of-rows : (key : AttrKey) (rs : List Row) → RowsAreSorted rs → values_of key (filled (rows_of rs)) ≡ values_in (named_rows key rs)
values_of-rows key rs sorted =
    values_of-filled key (rows_of rs) ∙ ap (λ es. gathered (filter (λ e. names_row key e.0) es)) (entries-from_sorted row_cmp (row_entries rs) sorted) ∙ values_of-entries key rs

-- one row more
pub one_more : (vs : List Value) (rs : List Row) (i : ℕ) (r : Row) → i < length rs → r ≡ get_or rs i r → (vs ++ r.values) ++ values_in (drop (i + 1) rs) ≡ vs ++ values_in (drop i rs)
one_more vs rs i r h is =
    append_assoc vs r.values (values_in (drop (i + 1) rs))
    ∙ sym (ap (λ xs. vs ++ values_in xs) (drop_more rs i r h) ∙ ap (λ (x : Row). vs ++ (x.values ++ values_in (drop (i + 1) rs))) (sym is))

-- all of them
pub no_more : (vs : List Value) (rs : List Row) (i : ℕ) → length rs ≤ i → vs ≡ vs ++ values_in (drop i rs)
no_more vs rs i h = sym (ap (λ xs. vs ++ values_in xs) (drop_all i rs h) ∙ append-nil vs)

-- each of the rows that are named is named
pub named_each : (key : AttrKey) (rs : List Row) → All (λ r. names_row key r.key ≡ true) (named_rows key rs)
named_each key [] = λ i d lt. absurd (omega arith)
named_each key (r ∷ rs) = by (names_row key r.key) refl (named_each key rs)
  where
    front : names_row key r.key ≡ true → All (λ r. names_row key r.key ≡ true) (named_rows key rs) → All (λ r. names_row key r.key ≡ true) (r ∷ named_rows key rs)
    front is h = elim [ zero ↦ λ d lt. is | suc i ↦ λ d lt. h i d (omega arith) ]

    by : (b : Bool) → names_row key r.key ≡ b → All (λ r. names_row key r.key ≡ true) (named_rows key rs) → All (λ r. names_row key r.key ≡ true) (cond b (r ∷ named_rows key rs) (named_rows key rs))
    by true is h = front is h
    by false is h = h

-- and has the type in the key
pub type_of_each : (key : AttrKey) (rs ns : List Row) (i : ℕ) (r : Row) → ns ≡ named_rows key rs → i < length ns → r ≡ get_or ns i r → r.key.datatype ≡ key.datatype
type_of_each key rs ns i r same lt is =
    type_named key r.key (ap (λ (x : Row). names_row key x.key) (is ∙ ap (λ xs. get_or xs i r) same) ∙ named_each key rs i r (subst (λ xs. i < length xs) same lt))

-- ---- a key with an issuer

module _ (row : RowKey) (test : RowKey → Bool) (same : (k : RowKey) → test k ≡ is_eq (row_cmp row k)) where
  none_behind : (k : RowKey) (es : List Entry) → row_cmp row k ≡ Equal → T (below_all row_cmp k es) → filter (λ e. test e.0) es ≡ []
  none_behind k [] t h = refl
  none_behind k (e ∷ es) t h =
      let here : row_cmp row e.0 ≡ Less = row_cmp_total.congr row k e.0 t ∙ less _ (is_true _ (first (is_lt (row_cmp k e.0)) (below_all row_cmp k es) h)) in
      ap (λ b. cond b (e ∷ filter (λ e. test e.0) es) (filter (λ e. test e.0) es)) (same e.0 ∙ ap is_eq here) ∙ none_behind k es t (second (is_lt (row_cmp k e.0)) (below_all row_cmp k es) h)

  one_row : (es : List Entry) → T (is_sorted row_cmp es) → gathered (filter (λ e. test e.0) es) ≡ unwrap_or (find row_cmp row es) []
  one_row [] s = refl
  one_row (e ∷ es) s =
      ap (λ b. gathered (cond b (e ∷ filter (λ e. test e.0) es) (filter (λ e. test e.0) es))) (same e.0)
      ∙ by (row_cmp row e.0) refl (one_row es (second (below_all row_cmp e.0 es) (is_sorted row_cmp es) s))
    where
      by : (r : Ordering) → row_cmp row e.0 ≡ r → gathered (filter (λ e. test e.0) es) ≡ unwrap_or (find row_cmp row es) []
          → gathered (cond (is_eq r) (e ∷ filter (λ e. test e.0) es) (filter (λ e. test e.0) es)) ≡ unwrap_or (cond (is_eq r) (Some e.1) (find row_cmp row es)) []
      by Less t rest = rest
      by Equal t rest = ap (λ fs. e.1 ++ gathered fs) (none_behind e.0 es t (first (below_all row_cmp e.0 es) (is_sorted row_cmp es) s)) ∙ append-nil e.1
      by Greater t rest = rest

pub values_of-issuer : (key : AttrKey) (row : RowKey) (issuer : List ℕ) (m : Rows) → key.issuer ≡ Some issuer → names_row key row ≡ true → values_of key m ≡ values_at m row
values_of-issuer key row issuer m is named =
    one_row row (names_row key) (λ k. names_one key row k issuer is named) (entries m) (entries_sorted m) ∙ ap (λ o. unwrap_or o []) (sym (get-entries m row))
