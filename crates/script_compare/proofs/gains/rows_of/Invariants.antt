use Rattle.std.proofs.Common.{◌≡◌, map, take}
use Rattle.serde_json.specs.View.{view}
use Rattle.script_compare.specs.Gains.{rows_of}
use Rattle.script_compare.specs.proofs_only.Rows.{row_view}
use Rattle.script_compare.proofs.gains.rows_of.Given as goal

-- the rows of the changes so far
abbrev pub invariant-loop-change : goal.invariant-loop-change
invariant-loop-change l = map row_view l.rows.items ≡ rows_of l.way (map view (take l.change-index l.changes))
