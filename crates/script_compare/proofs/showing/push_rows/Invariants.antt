use Rattle.std.proofs.Common.{◌≡◌, ◌++◌, map, take}
use Rattle.serde_json.specs.View.{view}
use Rattle.script_compare.specs.Shown.{rows_text}
use Rattle.script_compare.proofs.showing.push_rows.Given as goal

-- the rows so far
abbrev pub invariant-loop-change : goal.invariant-loop-change
invariant-loop-change l = l.out.items ≡ l.fn.out.items ++ rows_text l.widths (map view (take l.change-index l.changes))
