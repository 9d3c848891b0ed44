use Rattle.std.proofs.Common.{◌≡◌, ◌++◌, take}
use Rattle.std.specs.Prelude.{bytes_eq, filter}
use Rattle.law_split.proofs.rows.find.Given as goal

abbrev pub invariant-loop-row : goal.invariant-loop-row
invariant-loop-row g l =
    l.found.items ≡ l.fn.found.items ++ filter (λ row. bytes_eq (g.R.ReportRow.person row) l.person) (take l.row-index l.rows)
