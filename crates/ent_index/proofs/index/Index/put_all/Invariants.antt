use Rattle.std.proofs.Common.{take}
use Rattle.ent_index.specs.Index.{Adds, is_pair_of}
use Rattle.ent_index.proofs.index.Index.put_all.Given as goal

abbrev pub invariant-loop-key : goal.invariant-loop-key
invariant-loop-key l = Adds (is_pair_of (take l.key-index l.keys) l.cell) l.initial.self l.self
