use Rattle.ent_dump.proofs.Sending.{told_sent}
use Rattle.ent_dump.specs.Reply.{text_of}
use Rattle.ent_dump.proofs.lines.write_told.Goals as goal

pub returns-in-Some : goal.returns-in-Some
returns-in-Some g c =
    told_sent (λ j. text_of (g.J.JsonTree.content j)) c.in-Some.lines.now _ _ _ _ (rw c.in-Some.is at c.told_lines.ensures) c.write_lines.ensures
