use Rattle.ent_request.proofs.Sames.{answer-Decides}
use Rattle.ent_request.proofs.same.same_answer_is_equal.Goals as goal

pub returns : goal.returns
returns c = answer-Decides
