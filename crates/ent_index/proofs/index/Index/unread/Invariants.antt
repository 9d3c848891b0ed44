use Rattle.std.proofs.Common.{◌≡◌, not, take}
use Rattle.std.specs.List.{filter}
use Rattle.ent_index.specs.Index.{has}
use Rattle.ent_index.proofs.index.Index.unread.Given as goal

abbrev pub invariant-loop-key : goal.invariant-loop-key
invariant-loop-key l = l.unread ≡ filter (λ k. not (has l.self k l.cell)) (take l.key-index l.keys)
