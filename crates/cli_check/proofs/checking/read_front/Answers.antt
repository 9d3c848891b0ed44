use Rattle.std.proofs.Common.{ap}
use Rattle.cli_check.proofs.Verdicts.{front_read}
use Rattle.cli_check.proofs.checking.read_front.Goals as goal

pub returns-in-Ok-clause-front : goal.returns-in-Ok-clause-front
returns-in-Ok-clause-front g c =
    let known = g.R.Read.remaining in
    front_read (known c.args.reader.now) (known c.take-front.result.inner.now) c.read_to_end.new.buf.items c.new-bytes.result.items c.take-front.result.limit (ap (λ r. known r.now) c.take-front.ensures.inner) c.take-front.ensures.limit c.new-bytes.ensures.items c.in-Ok.ensures.bytes
