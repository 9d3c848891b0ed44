use Rattle.std.proofs.Common.{◌≡◌, ◌≤◌, count_by, map, take}
use Rattle.script_compare.specs.proofs_only.Rows.{line_view}
use Rattle.script_compare.proofs.writing.requests.Given as goal

-- those of the lines so far
abbrev pub invariant-loop-line : goal.invariant-loop-line
invariant-loop-line l = record {
  so_far : l.count ≡ count_by (λ line. line.0) (map line_view (take l.line-index l.lines));
  within : l.count ≤ l.line-index;
}
