use Rattle.ent_walk.proofs.FirstNodes.{indeterminate_has_its_cause}
use Rattle.ent_walk.proofs.law.an_indeterminate_answer_has_its_cause.Goals as goal

pub returns : goal.returns
returns c = indeterminate_has_its_cause
