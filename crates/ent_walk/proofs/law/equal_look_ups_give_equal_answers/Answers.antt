use Rattle.ent_walk.proofs.AnswersRest.{answers-rest}
use Rattle.ent_walk.proofs.law.equal_look_ups_give_equal_answers.Goals as goal

pub returns : goal.returns
returns c = answers-rest
