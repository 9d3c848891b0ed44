use Rattle.std.proofs.Common.{◌+◌, drop, map, sym}
use Rattle.ent_policy.proofs.Filling.{filling_first, filling_last, filling_next, kept_of, next_left, none_left}
use Rattle.ent_policy.proofs.measure.table.Goals as goal

pub loop-definition-init : goal.loop-definition-init
loop-definition-init c =
    let order = rw c.in-Some.is at c.in_ok-order.ensures in
    let same = sym c.as_slice-definition-items.ensures.value in
    filling_first c.args.policy.now.variables _ c.new-table.result c.new-table.ensures.empty (rw same at order.1)

pub loop-definition-preserved : goal.loop-definition-preserved
loop-definition-preserved c =
    let xs = c.as_slice-definition-items.result.now in
    let i = c.loop-definition.definition-index in
    filling_next c.args.policy.now.variables _ (map (λ d. d.now) (drop (i + 1) xs)) c.definition-item.result.now c.loop-definition.table c.insert.new.self c.as_str.result _
    (next_left xs i c.definition-item.result c.loop-definition-test.true c.definition-item.is) c.as_str.ensures c.in_ok-insert.ensures.updates (kept_of c.in_ok-one.one _ c.held-one.result c.in_ok-one.ensures c.held-one.ensures) c.loop-definition.invariant

pub returns : goal.returns
returns c =
    let order = rw c.in-Some.is at c.in_ok-order.ensures in
    let xs = c.as_slice-definition-items.result.now in
    (order.0, filling_last c.args.policy.now.variables _ c.loop-definition.table (none_left xs c.loop-definition.definition-index c.loop-definition-test.false) c.loop-definition.invariant)
