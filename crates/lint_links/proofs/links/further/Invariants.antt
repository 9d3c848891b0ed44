use Rattle.std.proofs.Common.{◌≡◌, map, take}
use Rattle.lint_links.specs.proofs_only.Rows.{is_one_set}
use Rattle.lint_links.proofs.links.further.Given as goal

abbrev pub invariant-loop-row : goal.invariant-loop-row
invariant-loop-row l = l.next.items ≡ map (λ row. is_one_set l.flags row.items) (take l.row-index l.rows)
