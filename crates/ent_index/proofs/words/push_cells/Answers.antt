use Rattle.std.proofs.Common.{arith, rules, ◌-◌}
use Rattle.std.proofs.lemmas.Nat.{and_le_l}
use Rattle.ent_index.proofs.Rolled.{push_done, push_more}
use Rattle.ent_index.proofs.words.push_cells.Goals as goal

pub loop-bits-preserved : goal.loop-bits-preserved
loop-bits-preserved c = (
  omega (arith, and_le_l c.loop-bits.bits (c.loop-bits.bits - 1), c.loop-bits.invariant.0),
  push_more c.args.word.now c.loop-bits.bits c.args.cells.now.items c.loop-bits.cells.items c.push.new.self.items _ (omega (arith, c.loop-bits-test.true)) c.loop-bits.invariant.0 (omega arith) c.in_ok-push.ensures.items
      c.loop-bits.invariant.1,
)

pub returns : goal.returns
returns c = push_done c.args.word.now c.loop-bits.bits c.args.cells.now.items c.loop-bits.cells.items (search rules) c.loop-bits.invariant.1
