use Rattle.std.proofs.Common.{◌∙◌}
use Rattle.ent_table.specs.Names.{triple_of}
use Rattle.ent_line.specs.Cells.{cell_reply}
use Rattle.ent_line.proofs.TextLemmas.{written}
use Rattle.ent_line.proofs.cell.one_cell_text.Goals as goal

pub returns : goal.returns
unfolding cell_reply
returns c =
    c.into_string.ensures ∙ written (cell_reply (triple_of c.args.person.now c.args.action.now c.args.resource.now, c.args.answer.now)) _ _ c.in_ok-out.ensures c.in_ok-write_one_cell.ensures
