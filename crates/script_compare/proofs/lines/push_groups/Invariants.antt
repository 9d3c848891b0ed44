use Rattle.std.proofs.Common.{◌≡◌, ◌++◌, map, take}
use Rattle.std.specs.List.{flat_map}
use Rattle.script_compare.specs.Gains.{group_lines}
use Rattle.script_compare.specs.proofs_only.Rows.{line_view, row_view}
use Rattle.script_compare.proofs.lines.push_groups.Given as goal

-- the lines of the groups so far
abbrev pub invariant-loop-rules : goal.invariant-loop-rules
invariant-loop-rules l = map line_view l.lines.items
    ≡ map line_view l.fn.lines.items ++ flat_map (group_lines l.way (map row_view l.rows)) (map (λ v. v.items) (take l.rules-index l.groups))
