use Rattle.ent_line.proofs.SessionLemmas.{separate}
use Rattle.ent_line.proofs.law.sessions_are_separate.Goals as goal

pub returns : goal.returns
returns c = separate
