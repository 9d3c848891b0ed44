-- The rows that aren't empty.
use Rattle.std.proofs.Common.{◌≡◌, List, [], ◌∷◌, Option, Some, None, refl, sym, ap, ◌∙◌, unwrap_or}
use Rattle.std.specs.FinMap.{entries, from_entries, get, insert, remove}
use Rattle.std.specs.List.{filter}
use Rattle.ent_values.specs.declared.value.Value.{Value}
use Rattle.ent_finder.proofs.Kept.{entries-keep, keep, keep-insert_none, keep-insert_some, keep_restored, kept}
use Rattle.ent_finder.proofs.RowKeys.{row_cmp_antisymmetric}
use Rattle.ent_finder.specs.Rows.{Rows, filled, is_filled, row_cmp, values_at, with_row}
use Rattle.ent_finder.proofs.Totals.{row_cmp_total}
use Rattle.ent_finder.specs.declared.row.RowKey.{RowKey}

abbrev full : List Value → Option (List Value)
full [] = None
full (v ∷ vs) = Some (v ∷ vs)

abbrev full_of : Option (List Value) → Option (List Value)
full_of None = None
full_of (Some vs) = full vs

filter-filled : (es : List (RowKey × List Value)) → filter (λ e. is_filled e.1) es ≡ kept row_cmp full es
filter-filled [] = refl
filter-filled ((k, []) ∷ es) = filter-filled es
filter-filled ((k, v ∷ vs) ∷ es) = ap (λ fs. (k, v ∷ vs) ∷ fs) (filter-filled es)

filled_is : (m : Rows) → filled m ≡ keep row_cmp full m
filled_is m = ap from_entries (filter-filled (entries m))

pub entries-filled : (m : Rows) → entries (filled m) ≡ filter (λ e. is_filled e.1) (entries m)
entries-filled m = ap entries (filled_is m) ∙ entries-keep row_cmp_total full full_of refl (λ vs. refl) row_cmp_antisymmetric m ∙ sym (filter-filled (entries m))

-- a swap changes one row
pub filled-insert : (m : Rows) (k : RowKey) (vs : List Value) → filled (insert m k vs) ≡ with_row (filled m) k vs
filled-insert m k [] =
    filled_is (insert m k []) ∙ keep-insert_none row_cmp_total full full_of refl (λ vs. refl) row_cmp_antisymmetric m k [] refl ∙ ap (λ n. remove n k) (sym (filled_is m))
filled-insert m k (v ∷ vs) =
    filled_is (insert m k (v ∷ vs)) ∙ keep-insert_some row_cmp_total full full_of refl (λ vs. refl) row_cmp_antisymmetric m k (v ∷ vs) (v ∷ vs) refl ∙ ap (λ n. insert n k (v ∷ vs)) (sym (filled_is m))

full_at : (o : Option (List Value)) → full (unwrap_or o []) ≡ full_of o
full_at None = refl
full_at (Some vs) = refl

-- a second swap restores what was there
pub filled_restored : (m : Rows) (k : RowKey) (vs : List Value) → filled (insert (insert m k vs) k (values_at m k)) ≡ filled m
filled_restored m k vs =
    filled_is _ ∙ keep_restored row_cmp_total full full_of refl (λ vs. refl) row_cmp_antisymmetric m k (values_at m k) vs (full_at (get m k)) ∙ sym (filled_is m)
