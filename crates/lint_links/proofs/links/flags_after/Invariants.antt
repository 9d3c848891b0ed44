use Rattle.std.proofs.Common.{◌≡◌, map}
use Rattle.lint_links.specs.proofs_only.Rows.{flags_after}
use Rattle.lint_links.proofs.links.flags_after.Given as goal

abbrev pub invariant-loop : goal.invariant-loop
invariant-loop l = l.flags.items ≡ flags_after (map (λ row. row.items) l.rows) l.counter
