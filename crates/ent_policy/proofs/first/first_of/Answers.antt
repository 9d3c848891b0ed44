use Rattle.ent_policy.proofs.Firsts.{fault_next}
use Rattle.ent_policy.proofs.first.first_of.Goals as goal

pub loop-fault-preserved : goal.loop-fault-preserved
loop-fault-preserved c = fault_next c.args.faults.now c.loop-fault.fault-index c.loop-fault.first c.earlier-first.result c.loop-fault-test.true c.loop-fault.invariant c.earlier-first.ensures
