use Rattle.ent_walk.proofs.Recorded.{recorded_exactly}
use Rattle.ent_walk.proofs.law.what_is_looked_up_is_recorded.Goals as goal

pub returns : goal.returns
returns c = recorded_exactly
