use Rattle.ent_walk.proofs.AnswersRest.{conditions-rest}
use Rattle.ent_walk.proofs.law.equal_findings_give_equal_conditions.Goals as goal

pub returns : goal.returns
returns c = conditions-rest
