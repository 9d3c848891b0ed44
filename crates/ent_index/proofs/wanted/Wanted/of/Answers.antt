use Rattle.std.proofs.Common.{arith}
use Rattle.ent_index.proofs.WantedOf.{wanted_all, wanted_none, wanted_step}
use Rattle.ent_index.proofs.wanted.Wanted.of.Goals as goal

pub loop-key-init : goal.loop-key-init
loop-key-init c = wanted_none c.args.questions.now c.args.keys.now c.new-wanted.result.items c.new-wanted.ensures.items

pub loop-key-preserved : goal.loop-key-preserved
loop-key-preserved c =
    wanted_step c.args.questions.now c.args.keys.now c.loop-key.key-index c.key-item.result c.loop-key.wanted.items c.push_wanted.new.wanted.items c.loop-key-test.true c.key-item.is
    c.in_ok-push_wanted.ensures c.loop-key.invariant

pub returns : goal.returns
returns c = wanted_all c.args.questions.now c.args.keys.now c.loop-key.key-index c.loop-key.wanted.items (omega (arith, c.loop-key-test.false)) c.loop-key.invariant
