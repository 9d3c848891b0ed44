use Rattle.ent_walk.proofs.Once.{each_once}
use Rattle.ent_walk.proofs.law.each_key_is_recorded_once.Goals as goal

pub returns : goal.returns
returns c = each_once
