use Rattle.std.proofs.Common.{◌≡◌, ◌++◌, take}
use Rattle.std.specs.Prelude.{bytes_eq, filter}
use Rattle.std.specs.List.{flat_map}
use Rattle.law_split.proofs.rows.find_in_all.Given as goal

abbrev pub invariant-loop-rows : goal.invariant-loop-rows
invariant-loop-rows g l =
    l.found.items ≡ l.fn.found.items
    ++ filter (λ row. bytes_eq (g.R.ReportRow.person row) l.person) (flat_map (λ list. list) (take l.rows-index l.lists))
