use Rattle.std.proofs.Common.{◌≡◌, drop}
use Rattle.ent_report.specs.Serials.{oldest}
use Rattle.ent_report.proofs.desk.oldest.Given as goal

abbrev pub invariant-loop-mark : goal.invariant-loop-mark
invariant-loop-mark l = oldest (drop l.mark-index l.marks) l.least ≡ oldest l.marks l.serial
