use Rattle.std.proofs.Common.{◌≡◌, drop}
use Rattle.lint_links.specs.proofs_only.Rows.{is_one_set}
use Rattle.lint_links.proofs.links.is_one_set.Given as goal

abbrev pub invariant-loop-number : goal.invariant-loop-number
invariant-loop-number l = is_one_set l.flags (drop l.number-index l.row) ≡ is_one_set l.flags l.row
