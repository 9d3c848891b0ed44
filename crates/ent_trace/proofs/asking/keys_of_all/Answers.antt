use Rattle.std.proofs.Common.{arith}
use Rattle.ent_trace.proofs.KeysAsked.{keys_all, keys_next, keys_start}
use Rattle.ent_trace.proofs.asking.keys_of_all.Goals as goal

pub loop-number-init : goal.loop-number-init
loop-number-init c = keys_start c.args.request.now c.args.questions.now c.args.numbers.now c.new-reads.result c.new-reads.ensures

pub returns : goal.returns
returns c = keys_all c.args.request.now c.args.questions.now c.args.numbers.now c.loop-number.number-index c.loop-number.reads (omega (arith, c.loop-number-test.false)) c.loop-number.invariant

pub loop-number-preserved : goal.loop-number-preserved
loop-number-preserved c =
    keys_next c.args.request.now c.args.questions.now c.args.numbers.now c.requires c.loop-number.number-index c.index-questions-number.result c.loop-number.reads c.note_keys.new.reads
    c.loop-number-test.true c.index-questions-number.is c.in_ok-note_keys.ensures c.loop-number.invariant
