use Rattle.std.proofs.Common.{◌∙◌}
use Rattle.ent_table.specs.Left.{cells_left}
use Rattle.ent_line.specs.Cells.{table_reply}
use Rattle.ent_line.proofs.TextLemmas.{written}
use Rattle.ent_line.proofs.cell.table_text.Goals as goal

pub returns : goal.returns
unfolding table_reply
returns g c =
    c.into_string.ensures ∙ written (table_reply (cells_left c.args.cells)) _ _ c.in_ok-out.ensures c.in_ok-write_table.ensures
