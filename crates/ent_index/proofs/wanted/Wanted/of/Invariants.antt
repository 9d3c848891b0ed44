use Rattle.std.proofs.Common.{take}
use Rattle.ent_index.specs.Groups.{AreWanted}
use Rattle.ent_index.proofs.wanted.Wanted.of.Given as goal

abbrev pub invariant-loop-key : goal.invariant-loop-key
invariant-loop-key l = AreWanted l.questions (take l.key-index l.keys) l.wanted.items
