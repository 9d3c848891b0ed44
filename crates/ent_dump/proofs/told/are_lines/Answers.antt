use Rattle.ent_dump.proofs.Telling.{one_more, one_stops}
use Rattle.ent_dump.proofs.told.are_lines.Goals as goal

pub loop-value-preserved : goal.loop-value-preserved
loop-value-preserved g c =
    one_more g.J.JsonTree.content c.args.values.now c.loop-value.value-index c.value-item.result _ c.loop-value-test.true c.value-item.is
    (rw c.if-not-is_line.false at c.is_line.ensures) c.loop-value.invariant

pub returns-then-not-is_line : goal.returns-then-not-is_line
returns-then-not-is_line g c =
    one_stops g.J.JsonTree.content c.args.values.now c.loop-value.value-index c.value-item.result _ c.loop-value-test.true c.value-item.is
    (rw c.if-not-is_line.true at c.is_line.ensures) c.loop-value.invariant
