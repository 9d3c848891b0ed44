use Rattle.std.proofs.Common.{◌≡◌, ◌++◌, ◌^◌, ◌<◌}
use Rattle.ent_index.proofs.Rolled.{with_bits}
use Rattle.ent_index.specs.Rolls.{cells_in}
use Rattle.ent_index.proofs.words.push_cells.Given as goal

abbrev pub invariant-loop-bits : goal.invariant-loop-bits
invariant-loop-bits l = (l.bits < 2 ^ 64) × (l.cells.items ++ cells_in (with_bits l.word l.bits) ≡ l.fn.cells.items ++ cells_in l.word)

abbrev pub decreases-loop-bits : goal.decreases-loop-bits
decreases-loop-bits l = l.bits
