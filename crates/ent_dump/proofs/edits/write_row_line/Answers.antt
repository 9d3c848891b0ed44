use Rattle.std.proofs.Common.{◌∙◌, sym}
use Rattle.ent_dump.proofs.Lining.{line_written}
use Rattle.ent_dump.proofs.Walks.{row_lined}
use Rattle.ent_dump.specs.Edits.{row_data}
use Rattle.ent_dump.proofs.edits.write_row_line.Goals as goal

pub returns : goal.returns
returns c =
    let shown = c.as_slice-values.result.now in
    row_lined _ _ _ c.args.number c.args.row.now.key c.args.row.now.values shown c.as_slice-values.ensures (sym c.is_empty.ensures ∙ c.if-is_empty.false)
    (line_written _ _ _ (row_data c.args.number c.args.row.now.key shown) _ _ c.in_ok-line.ensures c.in_ok-write_row.ensures c.write_line.ensures)
