use Rattle.ent_policy.proofs.StandIns.{stand_ins}
use Rattle.ent_policy.proofs.law.stand_ins_have_no_type.Goals as goal

pub returns : goal.returns
returns c = stand_ins
