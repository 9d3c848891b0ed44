use Rattle.ent_walk.proofs.FirstNodes.{decided_names_no_cause}
use Rattle.ent_walk.proofs.law.a_decided_answer_names_no_cause.Goals as goal

pub returns : goal.returns
returns c = decided_names_no_cause
