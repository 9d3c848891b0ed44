use Rattle.ent_policy.specs.Limits.{expression_fault}
use Rattle.ent_policy.proofs.Firsts.{fault_more}
use Rattle.ent_policy.proofs.limits.+expression.Goals as goal

pub argument_fault-loop-argument-preserved : goal.argument_fault-loop-argument-preserved
argument_fault-loop-argument-preserved t c =
    fault_more expression_fault c.args.arguments.now c.loop-argument.argument-index c.argument-item.result c.loop-argument.first c.earlier-first.result c.expression_fault.result
    c.loop-argument-test.true c.argument-item.is c.loop-argument.invariant c.expression_fault.ensures c.earlier-first.ensures
