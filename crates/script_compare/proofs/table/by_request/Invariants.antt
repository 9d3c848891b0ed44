use Rattle.std.proofs.Common.{◌≡◌, map}
use Rattle.std.specs.Vec.Iter.{into_iter_items}
use Rattle.serde_json.specs.Data.{no_members}
use Rattle.serde_json.specs.View.{members_view, view}
use Rattle.script_compare.specs.Tables.{by_request}
use Rattle.script_compare.proofs.table.by_request.Given as goal

-- the cells so far are put, and the others are left
abbrev pub invariant-loop-cell : goal.invariant-loop-cell
invariant-loop-cell l = by_request (members_view l.found.entries) (map view (into_iter_items l.cell-iterator)) ≡ by_request no_members (map view l.fn.cells.items)
