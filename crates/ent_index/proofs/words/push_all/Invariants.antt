use Rattle.std.proofs.Common.{◌≡◌, ◌++◌, take}
use Rattle.ent_index.specs.Rolls.{cells_of}
use Rattle.ent_index.proofs.words.push_all.Given as goal

abbrev pub invariant-loop-word : goal.invariant-loop-word
invariant-loop-word l = l.cells.items ≡ l.initial.cells.items ++ cells_of (take l.word-index l.words)
