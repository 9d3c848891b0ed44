use Rattle.ent_walk.proofs.AnswersRest.{findings-rest}
use Rattle.ent_walk.proofs.law.equal_findings_give_equal_answers.Goals as goal

pub returns : goal.returns
returns c = findings-rest
