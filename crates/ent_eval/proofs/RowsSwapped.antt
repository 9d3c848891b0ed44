-- What modules of attributes have after a swap in the row of a key of one of them.
use Rattle.std.proofs.Common.{◌≡◌, ℕ, ◌<◌, cond, List, [], ◌∷◌, map, length, None, Some, IsSome, is_some, slice_set as set, unwrap_or, sym, ap, ◌∙◌, arith}
use Rattle.std.specs.FinMap.{get, get-insert, get-remove, insert}
use Rattle.std.specs.Ordering.{is_eq}
use Rattle.std.proofs.lemmas.Cmp.{tied_itself}
use Rattle.std.proofs.lemmas.List.{get_or-map, get_or-set_same, length-map, map-set}
use Rattle.ent_values.specs.declared.value.Value.{Value}
use Rattle.ent_finder.specs.Rows.{Rows, Source, filled, filled_source, source_at, values_at, with_row}
use Rattle.ent_finder.proofs.Totals.{row_cmp_total}
use Rattle.ent_finder.specs.declared.row.RowKey.{RowKey}
use Rattle.ent_finder.proofs.Filled.{filled-insert, filled_restored}

-- ---- one module

-- what is in a row after it was given values
values_at-with_row : (m : Rows) (k : RowKey) (vs : List Value) → values_at (with_row m k vs) k ≡ vs
values_at-with_row m k [] =
    ap (λ o. unwrap_or o []) (get-remove row_cmp_total m k k ∙ ap (λ r. cond (is_eq r) None (get m k)) (tied_itself row_cmp_total k))
values_at-with_row m k (v ∷ vs) =
    ap (λ o. unwrap_or o []) (get-insert row_cmp_total m k (v ∷ vs) k ∙ ap (λ r. cond (is_eq r) (Some (v ∷ vs)) (get m k)) (tied_itself row_cmp_total k))

-- an exchange and then another with what came out
restored : (m : Rows) (k : RowKey) (vs : List Value) → with_row (with_row (filled m) k vs) k (values_at m k) ≡ filled m
restored m k vs =
    ap (λ (r : Rows). with_row r k (values_at m k)) (sym (filled-insert m k vs)) ∙ sym (filled-insert (insert m k vs) k (values_at m k)) ∙ filled_restored m k vs

-- an empty row counts as none
values_at-filled : (m : Rows) (k : RowKey) → values_at (filled m) k ≡ values_at m k
values_at-filled m k = ap (λ (r : Rows). values_at r k) (sym (restored m k [])) ∙ values_at-with_row (with_row (filled m) k []) k (values_at m k)

pub rows-undone : (m : Rows) (k : RowKey) (vs : List Value) → with_row (with_row (filled m) k vs) k (values_at (filled m) k) ≡ filled m
rows-undone m k vs = ap (with_row (with_row (filled m) k vs) k) (values_at-filled m k) ∙ restored m k vs

-- ---- one of several modules

-- the modules without their empty rows
abbrev pub all_filled : List Source → List Source
all_filled = map filled_source

-- a module with other values under a key, or without its row where there are none
abbrev pub with_values_in : RowKey → List Value → Source → Source
with_values_in k vs s = record s { rows = with_row s.rows k vs }

-- the same, with an empty row where there are none
abbrev pub with_values_put : RowKey → List Value → Source → Source
with_values_put k vs s = record s { rows = insert s.rows k vs }

pub filled_within : (ss : List Source) (n : ℕ) → n < length (all_filled ss) → n < length ss
filled_within ss n h = omega (arith, h, length-map ss filled_source)

pub filled-source : (ss : List Source) (n : ℕ) → n < length ss → source_at (all_filled ss) n ≡ filled_source (source_at ss n)
filled-source ss n h = get_or-map filled_source ss n _ _ h

-- what the modules have after a swap in one of them
pub filled-swapped : (ss : List Source) (n : ℕ) (k : RowKey) (vs : List Value) → n < length ss
    → all_filled (set ss n (with_values_put k vs (source_at ss n))) ≡ set (all_filled ss) n (with_values_in k vs (source_at (all_filled ss) n))
filled-swapped ss n k vs h =
    map-set filled_source ss n _
    ∙ ap (set (all_filled ss) n) (ap (λ (r : Rows). record (source_at ss n) { rows = r }) (filled-insert (source_at ss n).rows k vs) ∙ ap (with_values_in k vs) (sym (filled-source ss n h)))

-- what comes out of it
pub filled-taken : (ss : List Source) (n : ℕ) (k : RowKey) → n < length ss → values_at (source_at ss n).rows k ≡ values_at (source_at (all_filled ss) n).rows k
filled-taken ss n k h = sym (ap (λ (s : Source). values_at s.rows k) (filled-source ss n h) ∙ values_at-filled (source_at ss n).rows k)

-- the row is there afterwards
pub row_there : (ss : List Source) (n : ℕ) (k : RowKey) (vs : List Value) → n < length ss → IsSome (get (source_at (set ss n (with_values_put k vs (source_at ss n))) n).rows k)
row_there ss n k vs h =
    ap (λ (s : Source). is_some (get s.rows k)) (get_or-set_same ss n (with_values_put k vs (source_at ss n)) _ h)
    ∙ ap is_some (get-insert row_cmp_total (source_at ss n).rows k vs k)
    ∙ ap (λ r. is_some (cond (is_eq r) (Some vs) (get (source_at ss n).rows k))) (tied_itself row_cmp_total k)
