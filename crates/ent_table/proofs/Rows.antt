-- Other values in the row of a key of one module of attributes, and those that stood there again.
use Rattle.std.proofs.Common.{◌≡◌, ℕ, ◌<◌, List, length, slice_set as set, sym, ap, subst, ◌∙◌}
use Rattle.std.proofs.lemmas.List.{get_or-set_same, length-map, set-get_or, set-set}
use Rattle.ent_values.specs.declared.value.Value.{Value}
use Rattle.ent_finder.specs.Rows.{Rows, Source, filled_source, source_at, values_at, with_row}
use Rattle.ent_finder.specs.declared.row.RowKey.{RowKey}
use Rattle.ent_eval.specs.Exchange.{values_held}
use Rattle.ent_eval.proofs.RowsSwapped.{all_filled, filled-source, rows-undone, with_values_in}
use Rattle.ent_table.specs.State.{State}
use Rattle.ent_table.specs.Step.{with_values}

-- a state whose rows aren't empty, after an exchange and another with what came out
pub values_undone : (s : State) (ss : List Source) (n : ℕ) (k : RowKey) (vs : List Value) → s.held.sources ≡ all_filled ss → n < length ss → with_values (with_values s n k vs) n k (values_held s.held n k) ≡ s
values_undone s ss n k vs are h =
    let old : Source = source_at s.held.sources n in
    let within : n < length s.held.sources = subst (λ i. n < i) (sym (ap length are ∙ length-map ss filled_source)) h in
    let is : old ≡ filled_source (source_at ss n) = ap (λ l. source_at l n) are ∙ filled-source ss n h in
    let same : with_row (with_row old.rows k vs) k (values_at old.rows k) ≡ old.rows =
    ap (λ (o : Source). with_row (with_row o.rows k vs) k (values_at o.rows k)) is ∙ rows-undone (source_at ss n).rows k vs ∙ ap (λ (o : Source). o.rows) (sym is) in
    let back : with_values_in k (values_at old.rows k) (source_at (set s.held.sources n (with_values_in k vs old)) n) ≡ old =
    ap (with_values_in k (values_at old.rows k)) (get_or-set_same s.held.sources n (with_values_in k vs old) _ within) ∙ ap (λ (r : Rows). record old { rows = r }) same in
    ap (λ (l : List Source). record s { held = record s.held { sources = l } })
    (set-set s.held.sources n _ _ ∙ ap (set s.held.sources n) back ∙ set-get_or s.held.sources n _)
