use Rattle.std.proofs.Common.{ap, arith, length}
use Rattle.memo_bags.proofs.Growing.{all_none}
use Rattle.memo_answers.proofs.Kept.{IsNew, tests_new}
use Rattle.memo_answers.proofs.tests.EntryTests.of.Goals as goal

pub loop-init : goal.loop-init
loop-init c = record {
  many = ap length c.new-tests.ensures;
  new = all_none IsNew c.new-tests.result.list.items c.new-tests.ensures;
}

pub returns : goal.returns
returns c = λ at questions bags. tests_new c.args.entries.now c.loop.tests.list.items (omega (arith, c.loop.invariant.many)) c.loop.invariant.new at questions bags
