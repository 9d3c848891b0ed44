use Rattle.std.proofs.Common.{◌≡◌, ◌++◌, option_copied}
use Rattle.ent_table.specs.Left.{cells_left}
use Rattle.ent_report.specs.Reports.{by_rule_in}
use Rattle.ent_report.proofs.reports.by_rule_in.Given as goal

abbrev pub invariant-loop-person : goal.invariant-loop-person
invariant-loop-person g l = l.found.items ++ by_rule_in l.policy (option_copied l.rule) (cells_left l.person-iterator) ≡ by_rule_in l.policy (option_copied l.rule) (cells_left l.fn.cells)
