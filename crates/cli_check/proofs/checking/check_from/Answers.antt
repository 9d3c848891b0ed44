use Rattle.std.proofs.Common.{Ok, Err}
use Rattle.std.proofs.lemmas.Result.{err_from_is_err_and}
use Rattle.cli_check.proofs.Verdicts.{of_front}
use Rattle.cli_check.proofs.checking.check_from.Goals as goal

pub returns-in_err-judged : goal.returns-in_err-judged
returns-in_err-judged g c =
    let p = err_from_is_err_and c.from_residual-in_err-judged.result c.from_residual-in_err-judged.ensures.1 in
    let contents = g.W.Write.contents in
    rw (p.1, p.2) (of_front (g.R.Read.remaining c.args.reader.now) (contents c.args.writer.now) (contents c.check.new.writer) c.as_slice.result.now c.in_ok-bytes.bytes.items
    (Err c.in_err-judged.field-0.0) c.as_slice.ensures.value c.in_ok-bytes.ensures.front c.in_err-judged.ensures.judges)

pub returns : goal.returns
returns g c =
    let contents = g.W.Write.contents in
    let judged = of_front (g.R.Read.remaining c.args.reader.now) (contents c.args.writer.now) (contents c.check.new.writer) c.as_slice.result.now c.in_ok-bytes.bytes.items
    (Ok c.in_ok-judged.judged.verdict) c.as_slice.ensures.value c.in_ok-bytes.ensures.front c.in_ok-judged.ensures.judges in
    (c.in_ok-judged.judged.verdict, judged, c.is_passed.ensures)
