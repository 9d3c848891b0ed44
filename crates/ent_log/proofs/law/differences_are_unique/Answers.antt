use Rattle.ent_log.proofs.Unique.{differences-unique}
use Rattle.ent_log.proofs.law.differences_are_unique.Goals as goal

pub returns : goal.returns
returns g c = differences-unique g.K.Ord.cmp g.met.K.Ord.total g.A.PartialEq.eq
