use Rattle.ent_policy.specs.Depths.{depth}
use Rattle.ent_policy.proofs.Arguments.{greatest_more}
use Rattle.ent_policy.proofs.extent.+depth.Goals as goal

pub greatest_depth-loop-child-preserved : goal.greatest_depth-loop-child-preserved
greatest_depth-loop-child-preserved t c =
    greatest_more 17 depth c.args.children.now c.loop-child.child-index c.child-item.result c.loop-child.most c.child_depth.result c.max-most.result
    c.loop-child-test.true c.child-item.is c.loop-child.invariant c.child_depth.ensures c.max-most.ensures
