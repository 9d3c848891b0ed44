use Rattle.ent_line.proofs.AskingLemmas.{leave_all}
use Rattle.ent_line.proofs.law.questions_leave_all.Goals as goal

pub returns : goal.returns
returns c = leave_all
