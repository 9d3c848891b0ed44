use Rattle.ent_telling.proofs.Equal.{equal_facts}
use Rattle.ent_telling.proofs.law.equal_facts_give_equal_answers.Goals as goal

pub returns : goal.returns
returns c = equal_facts
