use Rattle.ent_policy.proofs.Firsts.{fault_more}
use Rattle.ent_policy.proofs.limits.fault_in.Goals as goal

pub loop-part-preserved : goal.loop-part-preserved
loop-part-preserved g c =
    fault_more g.L.Limited.exceeds c.args.parts.now c.loop-part.part-index c.part-item.result c.loop-part.first c.earlier-first.result c.fault.result
    c.loop-part-test.true c.part-item.is c.loop-part.invariant c.fault.ensures c.earlier-first.ensures
