use Rattle.ent_functions.proofs.Found.{has_next}
use Rattle.ent_functions.proofs.among.in_order.Goals as goal

pub loop-value-preserved : goal.loop-value-preserved
loop-value-preserved c =
    has_next c.args.values.now c.loop-value.value-index c.value-item.result c.loop-value-test.true c.value-item.is c.loop-value.ordered c.insert.new.self
    c.loop-value.invariant c.in_ok-insert.ensures.updates.0
