use Rattle.std.proofs.Common.{◌≡◌, ◌^◌, ◌-◌, map}
use Rattle.lint_links.specs.proofs_only.Rows.{counts_after}
use Rattle.lint_links.proofs.counts.counts_after.Given as goal

abbrev pub invariant-loop : goal.invariant-loop
invariant-loop l = l.counts.items ≡ counts_after (2 ^ 64 - 1) (map (λ row. row.items) l.rows) l.counter
