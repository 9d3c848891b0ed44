use Rattle.std.proofs.Common.{arith}
use Rattle.ent_request.specs.proofs_only.Fed.{key_writes}
use Rattle.ent_request.proofs.Lists.{fed_all, fed_next}
use Rattle.ent_request.proofs.cause.hash_path.Goals as goal

pub loop-key-preserved : goal.loop-key-preserved
loop-key-preserved g c =
    fed_next (g.H.Hasher.write) key_writes c.args.path.now c.loop-key.key-index c.key-item.result c.args.state.now c.loop-key.state c.hash_key.new.state
    c.loop-key-test.true c.key-item.is c.loop-key.invariant c.hash_key.ensures

pub returns : goal.returns
returns g c = fed_all (g.H.Hasher.write) key_writes c.args.path.now c.loop-key.key-index c.args.state.now c.loop-key.state (omega (arith, c.loop-key-test.false)) c.loop-key.invariant
