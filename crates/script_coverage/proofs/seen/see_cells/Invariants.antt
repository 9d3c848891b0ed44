use Rattle.std.proofs.Common.{◌≡◌, drop, map}
use Rattle.std.specs.List.{fold}
use Rattle.serde_json.specs.View.{members_view, view}
use Rattle.script_coverage.specs.Seen.{with_cell}
use Rattle.script_coverage.proofs.seen.see_cells.Given as goal

-- those of the cells so far, and the others are left
abbrev pub invariant-loop-cell : goal.invariant-loop-cell
invariant-loop-cell l =
    fold with_cell (members_view l.seen.entries) (map view (drop l.cell-index l.cells)) ≡ fold with_cell (members_view l.fn.seen.entries) (map view l.cells)
