use Rattle.ent_walk.proofs.AnswersRest.{targets-rest}
use Rattle.ent_walk.proofs.law.equal_findings_give_equal_targets.Goals as goal

pub returns : goal.returns
returns c = targets-rest
