use Rattle.std.proofs.Common.{◌≡◌, ◌++◌}
use Rattle.ent_table.specs.Parts.{column_left}
use Rattle.ent_report.specs.proofs_only.Permitted.{permitted_people}
use Rattle.ent_report.proofs.reports.who_in.Given as goal

abbrev pub invariant-loop-person : goal.invariant-loop-person
invariant-loop-person g l = l.found.items ++ permitted_people (column_left l.person-iterator) ≡ permitted_people (column_left l.fn.answers)
