use Rattle.std.proofs.lemmas.Result.{err_from_is_err_and}
use Rattle.ent_dump.specs.Lines.{ended}
use Rattle.ent_dump.specs.Reply.{text_of}
use Rattle.ent_dump.proofs.Sending.{front_sent}
use Rattle.ent_dump.proofs.lines.write_lines.Goals as goal

pub returns-in_err-write_line : goal.returns-in_err-write_line
returns-in_err-write_line g c =
    let p = err_from_is_err_and c.from_residual.result c.from_residual.ensures.1 in
    let contents = g.W.Write.contents in
    rw (p.1, p.2)
    (front_sent (λ j. ended (text_of (g.J.JsonTree.content j))) (contents c.args.writer.now) (contents c.loop-line.writer) (contents c.write_line.new.writer)
    c.args.lines.now c.loop-line.line-index c.line-item.result c.in_err-write_line.field-0.0
    c.loop-line-test.true c.line-item.is c.loop-line.invariant c.in_err-write_line.ensures)
