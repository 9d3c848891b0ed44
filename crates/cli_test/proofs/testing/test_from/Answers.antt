use Rattle.std.proofs.lemmas.Result.{err_from_is_err_and}
use Rattle.cli_test.proofs.Tests.{broken_off, nothing_told}
use Rattle.cli_test.proofs.testing.test_from.Goals as goal

pub returns-in_err-bytes : goal.returns-in_err-bytes
returns-in_err-bytes g c =
    let p = err_from_is_err_and c.from_residual.result c.from_residual.ensures.1 in
    rw (p.1, p.2) (nothing_told c.args.plan c.args.name.now (g.R.Read.remaining c.args.reader.now) (g.W.Write.contents c.args.writer.now) c.in_err-bytes.field-0.0)

pub returns-in_err-suite : goal.returns-in_err-suite
returns-in_err-suite g c =
    let p = err_from_is_err_and c.from_residual-in_err-suite.result c.from_residual-in_err-suite.ensures.1 in
    rw (p.1, p.2)
    (broken_off c.args.plan c.args.name.now (g.R.Read.remaining c.args.reader.now) (g.W.Write.contents c.args.writer.now) (g.W.Write.contents c.test_bytes.new.writer)
    c.in_err-suite.field-0.0 c.in_err-suite.ensures)
