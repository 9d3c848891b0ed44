use Rattle.ent_request.proofs.ReadersAre.{of_one_question}
use Rattle.ent_request.proofs.readers.a_key_is_looked_up_for_one_question.Goals as goal

pub returns : goal.returns
returns c = of_one_question
