use Rattle.std.proofs.Common.{[], ◌∷◌}
use Rattle.std.proofs.lemmas.Result.{err_from_is_err_and}
use Rattle.ent_dump.specs.Reply.{text_of}
use Rattle.ent_dump.proofs.Sending.{both_sent, first_sent}
use Rattle.ent_dump.proofs.lines.write_line.Goals as goal

pub returns-in_err-send : goal.returns-in_err-send
returns-in_err-send g c =
    let p = err_from_is_err_and c.from_residual.result c.from_residual.ensures.1 in
    let contents = g.W.Write.contents in
    let text = text_of (g.J.JsonTree.content c.args.line.now) in
    rw (p.1, p.2)
    (first_sent (contents c.args.writer.now) (contents c.send.new.writer) text (10 ∷ []) c.in_err-send.field-0.0
    (rw (c.as_bytes.ensures.value, c.text_of.ensures) at c.in_err-send.ensures))

pub returns : goal.returns
returns g c =
    let contents = g.W.Write.contents in
    let text = text_of (g.J.JsonTree.content c.args.line.now) in
    both_sent (contents c.args.writer.now) (contents c.send.new.writer) (contents c.send-2.new.writer) text (10 ∷ []) c.send-2.result
    (rw (c.as_bytes.ensures.value, c.text_of.ensures) at c.in_ok-send.ensures) c.send-2.ensures
