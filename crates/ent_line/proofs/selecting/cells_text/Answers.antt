use Rattle.std.proofs.Common.{◌∙◌}
use Rattle.std.specs.Prelude.{filter}
use Rattle.ent_table.specs.Left.{cells_left}
use Rattle.ent_line.specs.Cells.{cells_reply}
use Rattle.ent_line.specs.proofs_only.Selecting.{selects}
use Rattle.ent_line.proofs.TextLemmas.{written}
use Rattle.ent_line.proofs.selecting.cells_text.Goals as goal

pub returns : goal.returns
unfolding cells_reply
returns g c =
    c.into_string.ensures ∙ written (cells_reply (filter (selects c.args.selection) (cells_left c.args.cells))) _ _ c.in_ok-out.ensures c.in_ok-write_reply.ensures
