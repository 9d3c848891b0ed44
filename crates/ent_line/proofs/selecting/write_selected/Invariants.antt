use Rattle.std.proofs.Common.{◌≡◌, ◌++◌, map}
use Rattle.std.specs.Prelude.{filter}
use Rattle.ent_json.specs.proofs_only.Text.{items_tokens_of}
use Rattle.ent_table.specs.Left.{cells_left}
use Rattle.ent_line.specs.Cells.{cell_data}
use Rattle.ent_line.specs.proofs_only.Selecting.{selects}
use Rattle.ent_line.proofs.selecting.write_selected.Given as goal

abbrev pub invariant-loop-person : goal.invariant-loop-person
invariant-loop-person g l =
    l.out ++ items_tokens_of (map cell_data (filter (selects l.selection) (cells_left l.person-iterator)))
    ≡ l.fn.out ++ items_tokens_of (map cell_data (filter (selects l.fn.selection) (cells_left l.fn.cells)))
