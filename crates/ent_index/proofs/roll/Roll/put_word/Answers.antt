use Rattle.std.proofs.Common.{arith}
use Rattle.ent_index.proofs.WordCells.{few}
use Rattle.ent_index.proofs.roll.Roll.put_word.Goals as goal

pub overflow_add-self : goal.overflow_add-self
overflow_add-self c = omega (arith, c.self.invariant.1, c.in_ok-added.ensures.count, few 0 c.put_in.new.words.items c.in_ok-added.ensures.words)
