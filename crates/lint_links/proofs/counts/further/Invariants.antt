use Rattle.std.proofs.Common.{◌≡◌, ◌^◌, ◌-◌, map, take}
use Rattle.lint_links.specs.proofs_only.Rows.{counted_row}
use Rattle.lint_links.proofs.counts.further.Given as goal

abbrev pub invariant-loop-row : goal.invariant-loop-row
invariant-loop-row l = l.next.items ≡ map (λ row. counted_row (2 ^ 64 - 1) l.counts row.items) (take l.row-index l.rows)
