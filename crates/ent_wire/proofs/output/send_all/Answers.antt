use Rattle.std.proofs.lemmas.Result.{err_from_is_err_and}
use Rattle.ent_wire.proofs.PieceLemmas.{part_sent}
use Rattle.ent_wire.proofs.output.send_all.Goals as goal

pub returns-in_err-send : goal.returns-in_err-send
returns-in_err-send g c =
    let p = err_from_is_err_and c.from_residual.result c.from_residual.ensures.1 in
    let contents = g.W.Write.contents in
    rw (p.1, p.2) (part_sent (contents c.args.writer.now) (contents c.loop-part.writer) (contents c.send.new.writer) c.args.parts.now c.loop-part.part-index _ c.in_err-send.field-0.0 c.loop-part-test.true c.loop-part.invariant c.in_err-send.ensures)
