use Rattle.std.proofs.Common.{◌∙◌}
use Rattle.ent_eval.specs.LooksOf.{held_by}
use Rattle.ent_telling.specs.Facts.{facts_data}
use Rattle.ent_table.specs.Names.{triple_of}
use Rattle.ent_line.specs.Cells.{cell_data}
use Rattle.ent_line.proofs.ExplainedLemmas.{explained_written}
use Rattle.ent_line.proofs.explaining.cell_explained_text.Goals as goal

pub returns : goal.returns
returns g c =
    let who = c.args.who in
    let told = facts_data c.args.whole (held_by c.args.pdp.now) c.args.explained.reads in
    let causes = c.args.explained.causes in
    c.into_string.ensures
    ∙ explained_written (cell_data (triple_of who.0.now who.1.now who.2.now, c.args.explained.answer)) causes told _ _ _ _ c.in_ok-out.ensures c.in_ok-begin_reply.ensures
    c.in_ok-write_cell.ensures (rw c.as_slice.ensures at c.in_ok-end_reply.ensures)
