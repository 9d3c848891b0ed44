use Rattle.std.proofs.Common.{arith}
use Rattle.ent_json.proofs.PlainLemmas.{looked}
use Rattle.ent_json.proofs.bytes.is_plain.Goals as goal

pub returns : goal.returns
returns c = looked c.args.text.now c.loop-byte.byte-index c.loop-byte.odd (omega (arith, c.loop-byte-test.false)) c.loop-byte.invariant
