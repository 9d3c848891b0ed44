use Rattle.std.proofs.Common.{take}
use Rattle.ent_index.specs.Groups.{Covers}
use Rattle.ent_index.proofs.groups.Groups.candidates.Given as goal

abbrev pub invariant-loop-one : goal.invariant-loop-one
invariant-loop-one l = Covers l.self (take l.one-index l.wanted) l.cells
