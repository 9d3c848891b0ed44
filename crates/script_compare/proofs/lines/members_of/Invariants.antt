use Rattle.std.proofs.Common.{◌≡◌, ◌≤◌, map, take}
use Rattle.script_compare.specs.Gains.{members_of}
use Rattle.script_compare.specs.proofs_only.Rows.{row_view}
use Rattle.script_compare.proofs.lines.members_of.Given as goal

-- those of the rows so far
abbrev pub invariant-loop-row : goal.invariant-loop-row
invariant-loop-row l = record {
  so_far : l.count ≡ members_of l.rules (map row_view (take l.row-index l.rows));
  within : l.count ≤ l.row-index;
}
