use Rattle.std.proofs.Common.{◌≡◌, ◌++◌, map}
use Rattle.ent_json.specs.proofs_only.Text.{items_tokens_of}
use Rattle.ent_table.specs.Left.{cells_left}
use Rattle.ent_line.specs.Cells.{cell_data}
use Rattle.ent_line.proofs.cell.write_cells.Given as goal

abbrev pub invariant-loop-person : goal.invariant-loop-person
invariant-loop-person g l = l.out ++ items_tokens_of (map cell_data (cells_left l.person-iterator)) ≡ l.fn.out ++ items_tokens_of (map cell_data (cells_left l.fn.cells))
