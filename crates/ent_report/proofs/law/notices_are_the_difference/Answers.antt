use Rattle.ent_report.proofs.Counted.{are_the_difference}
use Rattle.ent_report.proofs.law.notices_are_the_difference.Goals as goal

pub returns : goal.returns
returns c = are_the_difference
