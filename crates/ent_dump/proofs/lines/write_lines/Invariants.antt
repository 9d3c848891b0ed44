use Rattle.std.proofs.Common.{take}
use Rattle.std.specs.List.{flat_map}
use Rattle.std.specs.Io.KnownBytes.{Appends}
use Rattle.ent_dump.specs.Lines.{ended}
use Rattle.ent_dump.specs.Reply.{text_of}
use Rattle.ent_dump.proofs.lines.write_lines.Given as goal

abbrev pub invariant-loop-line : goal.invariant-loop-line
invariant-loop-line g l =
    Appends (g.W.Write.contents l.fn.writer) (g.W.Write.contents l.writer)
    (flat_map (λ j. ended (text_of (g.J.JsonTree.content j))) (take l.line-index l.lines))
