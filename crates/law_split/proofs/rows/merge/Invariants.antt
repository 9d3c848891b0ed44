use Rattle.std.proofs.Common.{◌≡◌, take}
use Rattle.std.specs.List.{flat_map}
use Rattle.law_split.specs.Merged.{merged}
use Rattle.law_split.proofs.rows.merge.Given as goal

abbrev pub invariant-loop-person : goal.invariant-loop-person
invariant-loop-person g l =
    l.found.items ≡ merged g.R.ReportRow.person (take l.person-index l.order) (flat_map (λ list. list) l.lists)
