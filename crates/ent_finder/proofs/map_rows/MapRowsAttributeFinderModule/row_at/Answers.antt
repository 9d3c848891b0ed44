use Rattle.std.proofs.Common.{arith, ◌∙◌, ap, subst, sym}
use Rattle.ent_finder.proofs.Seats.{elements_counted, entry_seen}
use Rattle.ent_finder.specs.Blocks.{rows_in}
use Rattle.ent_finder.specs.RowEntry.{RowsAreSorted, row_entry, rows_of}
use Rattle.ent_finder.specs.Rows.{Source, row_cmp}
use Rattle.ent_finder.proofs.map_rows.MapRowsAttributeFinderModule.row_at.Goals as goal

pub returns-clause-row : goal.returns-clause-row
returns-clause-row c =
    let sorted = subst (λ bs. RowsAreSorted (rows_in bs)) (sym c.deref.ensures.value) c.self.invariant.0 in
    entry_seen row_cmp row_entry _ _ sorted (ap (λ bs. rows_of (rows_in bs)) c.deref.ensures.value ∙ ap (λ (s : Source). s.rows) c.self.view_is) c.args.index _ c.row_at.ensures

pub returns-clause-indexed : goal.returns-clause-indexed
returns-clause-indexed c =
    let count = elements_counted row_cmp row_entry (rows_in c.self.inside.blocks.items) _ c.self.invariant.0 (ap (λ (s : Source). s.rows) c.self.view_is) in
    omega (arith, count, c.self.invariant.1, c.self.invariant.2)
