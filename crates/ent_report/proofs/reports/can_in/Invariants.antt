use Rattle.std.proofs.Common.{◌≡◌, ◌++◌}
use Rattle.ent_table.specs.Left.{cells_left}
use Rattle.ent_report.specs.proofs_only.Permitted.{permitted}
use Rattle.ent_report.proofs.reports.can_in.Given as goal

abbrev pub invariant-loop-action : goal.invariant-loop-action
invariant-loop-action g l = l.found.items ++ permitted (cells_left l.action-iterator) ≡ permitted (cells_left l.fn.cells)
