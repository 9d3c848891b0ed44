use Rattle.std.proofs.Common.{◌≡◌, ◌∙◌, vec_len, true≢false, eq-eqb, length, eqb-true, sym, arith}
use Rattle.std.proofs.lemmas.Result.{err_from_is_err_and}
use Rattle.ent_line.specs.declared.input.InputPiece.TheVariants.{End, Part, Line}
use Rattle.ent_line.proofs.ServeLemmas.{ends, took, begins, after_part, after_line, stops_at_fault, stops_at_end, last_is_answered, last_breaks, line_breaks}
use Rattle.ent_line.proofs.serving.serve_within.Goals.{in-Part, in-Line+in_ok-answer_line-in-Line}
use Rattle.ent_line.proofs.serving.serve_within.Goals as goal

pub loop-look-init : goal.loop-look-init
loop-look-init g c = record {
  ready = c.requires;
  so_far = rw c.in-Ok.ensures.items (begins g.S.Answering.answers (g.S.Answering.world c.args.service.now) (g.R.Read.remaining c.args.reader.now) (g.W.Write.contents c.args.writer.now));
  room = omega (arith, c.in-Ok.ensures.len);
  taken = omega (arith, c.in-Ok.ensures.exact);
  few = omega arith;
}

pub returns-in_err-piece-clause-run : goal.returns-in_err-piece-clause-run
returns-in_err-piece-clause-run g c =
    let A = g.S.Answering.answers in
    let e = ends (g.S.Answering.world c.args.service.now) (g.S.Answering.world c.loop-look.service) (g.R.Read.remaining c.args.reader.now) (g.R.Read.remaining c.loop-look.reader) (g.W.Write.contents c.args.writer.now) (g.W.Write.contents c.loop-look.writer) in
    let next = g.R.Read.remaining c.take_piece.new.reader in
    let p = err_from_is_err_and c.from_residual.result c.from_residual.ensures.1 in
    rw (p.1, p.2) (stops_at_fault A e next c.loop-look.line.items c.take_piece.new.line.items c.loop-look.count c.in_err-piece.field-0.0 c.loop-look.invariant.so_far c.in_err-piece.ensures.piece)

pub returns-then-is_empty-clause-run : goal.returns-then-is_empty-clause-run
returns-then-is_empty-clause-run g c =
    let A = g.S.Answering.answers in
    let e = ends (g.S.Answering.world c.args.service.now) (g.S.Answering.world c.loop-look.service) (g.R.Read.remaining c.args.reader.now) (g.R.Read.remaining c.loop-look.reader) (g.W.Write.contents c.args.writer.now) (g.W.Write.contents c.loop-look.writer) in
    let next = g.R.Read.remaining c.take_piece.new.reader in
    let piece = took e.left next c.loop-look.line.items c.take_piece.new.line.items c.in_ok-piece.piece End c.in-End.is c.in_ok-piece.ensures.piece in
    let none : length c.take_piece.new.line.items ≡ 0 = omega (arith, eqb-true _ _ (sym c.is_empty.ensures ∙ c.if-is_empty.true), c.take_piece.new.line.ok.0) in
    stops_at_end A e next c.loop-look.line.items c.take_piece.new.line.items c.loop-look.count c.loop-look.invariant.so_far piece none

pub returns-in_err-answer_line-in-End-clause-run : goal.returns-in_err-answer_line-in-End-clause-run
returns-in_err-answer_line-in-End-clause-run g c =
    let A = g.S.Answering.answers in
    let e = ends (g.S.Answering.world c.args.service.now) (g.S.Answering.world c.loop-look.service) (g.R.Read.remaining c.args.reader.now) (g.R.Read.remaining c.loop-look.reader) (g.W.Write.contents c.args.writer.now) (g.W.Write.contents c.loop-look.writer) in
    let next = g.R.Read.remaining c.take_piece.new.reader in
    let long = g.met.S.Answering.long_lines_alike in
    let piece = took e.left next c.loop-look.line.items c.take_piece.new.line.items c.in_ok-piece.piece End c.in-End.is c.in_ok-piece.ensures.piece in
    let some = λ (z : length c.take_piece.new.line.items ≡ 0). true≢false (sym (c.is_empty.ensures ∙ eq-eqb (vec_len c.take_piece.new.line) 0 (omega (arith, z, c.take_piece.new.line.ok.0))) ∙ c.if-is_empty.false) in
    let p = err_from_is_err_and c.from_residual-in_err-answer_line-in-End.result c.from_residual-in_err-answer_line-in-End.ensures.1 in
    let said = rw c.as_slice.ensures.value at c.in_err-answer_line-in-End.ensures.line in
    rw (p.1, p.2) (last_breaks A long e next (g.W.Write.contents c.answer_line.new.writer) (g.S.Answering.world c.answer_line.new.service) c.loop-look.line.items c.take_piece.new.line.items c.loop-look.count c.in_err-answer_line-in-End.field-0.0 c.loop-look.invariant.so_far piece some said)

pub returns-in-End-clause-run : goal.returns-in-End-clause-run
returns-in-End-clause-run g c =
    let A = g.S.Answering.answers in
    let e = ends (g.S.Answering.world c.args.service.now) (g.S.Answering.world c.loop-look.service) (g.R.Read.remaining c.args.reader.now) (g.R.Read.remaining c.loop-look.reader) (g.W.Write.contents c.args.writer.now) (g.W.Write.contents c.loop-look.writer) in
    let next = g.R.Read.remaining c.take_piece.new.reader in
    let long = g.met.S.Answering.long_lines_alike in
    let piece = took e.left next c.loop-look.line.items c.take_piece.new.line.items c.in_ok-piece.piece End c.in-End.is c.in_ok-piece.ensures.piece in
    let some = λ (z : length c.take_piece.new.line.items ≡ 0). true≢false (sym (c.is_empty.ensures ∙ eq-eqb (vec_len c.take_piece.new.line) 0 (omega (arith, z, c.take_piece.new.line.ok.0))) ∙ c.if-is_empty.false) in
    let said = rw c.as_slice.ensures.value at c.in_ok-answer_line-in-End.ensures.line in
    last_is_answered A long e next (g.W.Write.contents c.answer_line.new.writer) (g.S.Answering.world c.answer_line.new.service) c.loop-look.line.items c.take_piece.new.line.items c.loop-look.count c.in_ok-answer_line-in-End.field-0 c.loop-look.invariant.so_far piece some said

pub returns-in_err-answer_line-in-Line-clause-run : goal.returns-in_err-answer_line-in-Line-clause-run
returns-in_err-answer_line-in-Line-clause-run g c =
    let A = g.S.Answering.answers in
    let e = ends (g.S.Answering.world c.args.service.now) (g.S.Answering.world c.loop-look.service) (g.R.Read.remaining c.args.reader.now) (g.R.Read.remaining c.loop-look.reader) (g.W.Write.contents c.args.writer.now) (g.W.Write.contents c.loop-look.writer) in
    let next = g.R.Read.remaining c.take_piece.new.reader in
    let long = g.met.S.Answering.long_lines_alike in
    let piece = took e.left next c.loop-look.line.items c.take_piece.new.line.items c.in_ok-piece.piece (Line c.in-Line.is_followed) c.in-Line.is c.in_ok-piece.ensures.piece in
    let p = err_from_is_err_and c.from_residual-in_err-answer_line-in-Line.result c.from_residual-in_err-answer_line-in-Line.ensures.1 in
    let said = rw c.as_slice-in-Line.ensures.value at c.in_err-answer_line-in-Line.ensures.line in
    rw (p.1, p.2) (line_breaks A long e next (g.W.Write.contents c.answer_line-in-Line.new.writer) (g.S.Answering.world c.answer_line-in-Line.new.service) c.loop-look.line.items c.take_piece.new.line.items c.loop-look.count c.in_err-answer_line-in-Line.field-0.0 c.in-Line.is_followed c.loop-look.invariant.so_far piece said)

pub loop-look-preserved : goal.loop-look-preserved
loop-look-preserved g c =
    let A = g.S.Answering.answers in
    let e = ends (g.S.Answering.world c.args.service.now) (g.S.Answering.world c.loop-look.service) (g.R.Read.remaining c.args.reader.now) (g.R.Read.remaining c.loop-look.reader) (g.W.Write.contents c.args.writer.now) (g.W.Write.contents c.loop-look.writer) in
    let next = g.R.Read.remaining c.take_piece.new.reader in
    let long = g.met.S.Answering.long_lines_alike in
    elim c.match-piece.branch [
      | in-Part w ↦
          let piece = took e.left next c.loop-look.line.items c.take_piece.new.line.items c.in_ok-piece.piece Part w.in-Part.is c.in_ok-piece.ensures.piece in
          rw (w.service-is, w.writer-is, w.line-is, w.count-is) (record {
            ready = c.loop-look.invariant.ready;
            so_far = after_part A e next c.loop-look.line.items c.take_piece.new.line.items c.loop-look.count c.loop-look.invariant.so_far piece;
            room = c.take_piece.ensures.room;
            taken = omega (arith, c.loop-look.invariant.taken, c.take_piece.ensures.taken);
            few = omega (arith, c.loop-look.invariant.few);
          })
      | in-Line+in_ok-answer_line-in-Line w ↦
          let piece = took e.left next c.loop-look.line.items c.take_piece.new.line.items c.in_ok-piece.piece (Line w.in-Line.is_followed) w.in-Line.is c.in_ok-piece.ensures.piece in
          let said = rw w.as_slice-in-Line.ensures.value at w.in_ok-answer_line-in-Line.ensures.line in
          rw (w.service-is, w.writer-is, w.line-is, w.count-is) (record {
            ready = w.in_ok-answer_line-in-Line.ensures.ready;
            so_far = rw w.clear.ensures.items (after_line A long e next (g.W.Write.contents w.answer_line-in-Line.new.writer) (g.S.Answering.world w.answer_line-in-Line.new.service) c.loop-look.line.items c.take_piece.new.line.items c.loop-look.count w.in_ok-answer_line-in-Line.field-0 w.in-Line.is_followed c.loop-look.invariant.so_far piece said);
            room = omega (arith, w.clear.ensures.len);
            taken = omega (arith, c.loop-look.invariant.taken, c.take_piece.ensures.taken, w.clear.ensures.capacity);
            few = omega (arith, c.loop-look.invariant.few);
          })
    ]
