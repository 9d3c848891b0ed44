use Rattle.std.proofs.Common.{map, take}
use Rattle.std.specs.Prelude.{string_bytes}
use Rattle.lint_places.specs.Views.{fault_at}
use Rattle.lint_messages.specs.Told.{ArePlaced}
use Rattle.lint_messages.proofs.every.lines_of.Given as goal

-- the lines of those that were passed
abbrev pub invariant-loop-faulty : goal.invariant-loop-faulty
invariant-loop-faulty g l = ArePlaced (map (fault_at g.J.JsonTree.content) (take l.faulty-index l.faults)) (map string_bytes l.lines.items)
