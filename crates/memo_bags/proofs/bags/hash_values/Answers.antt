use Rattle.std.proofs.Common.{arith}
use Rattle.memo_bags.specs.proofs_only.Ready.{value_writes}
use Rattle.ent_request.proofs.Lists.{fed_all, fed_next}
use Rattle.memo_bags.proofs.bags.hash_values.Goals as goal

pub loop-value-preserved : goal.loop-value-preserved
loop-value-preserved g c =
    fed_next (g.H.Hasher.write) value_writes c.args.values.now c.loop-value.value-index c.value-item.result c.args.state.now c.loop-value.state c.hash_value.new.state
    c.loop-value-test.true c.value-item.is c.loop-value.invariant c.hash_value.ensures

pub returns : goal.returns
returns g c = fed_all (g.H.Hasher.write) value_writes c.args.values.now c.loop-value.value-index c.args.state.now c.loop-value.state (omega (arith, c.loop-value-test.false)) c.loop-value.invariant
