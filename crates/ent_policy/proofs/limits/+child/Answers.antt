use Rattle.ent_policy.specs.Limits.{limit_fault}
use Rattle.ent_policy.proofs.Firsts.{fault_more}
use Rattle.ent_policy.proofs.limits.+child.Goals as goal

pub fault_in_children-loop-child-preserved : goal.fault_in_children-loop-child-preserved
fault_in_children-loop-child-preserved t c =
    fault_more limit_fault c.args.children.now c.loop-child.child-index c.child-item.result c.loop-child.first c.earlier-first.result c.in_ok-child_fault.field-0
    c.loop-child-test.true c.child-item.is c.loop-child.invariant c.in_ok-child_fault.ensures c.earlier-first.ensures
