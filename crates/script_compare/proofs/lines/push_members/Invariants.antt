use Rattle.std.proofs.Common.{◌≡◌, ◌++◌, map, take}
use Rattle.std.specs.List.{flat_map}
use Rattle.script_compare.specs.Gains.{member_if}
use Rattle.script_compare.specs.proofs_only.Rows.{line_view, row_view}
use Rattle.script_compare.proofs.lines.push_members.Given as goal

-- the lines of the rows so far
abbrev pub invariant-loop-row : goal.invariant-loop-row
invariant-loop-row l =
    map line_view l.lines.items ≡ map line_view l.fn.lines.items ++ flat_map (member_if l.rules) (map row_view (take l.row-index l.rows))
