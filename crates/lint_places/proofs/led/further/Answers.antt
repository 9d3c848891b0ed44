use Rattle.std.proofs.Common.{length}
use Rattle.std.proofs.lemmas.Slice.Zip.{zip_end}
use Rattle.lint_places.specs.proofs_only.Rows.{is_reached_by}
use Rattle.lint_places.proofs.LedLemmas.{all_seen}
use Rattle.lint_places.proofs.led.further.Goals as goal

pub returns : goal.returns
returns c =
    let ended = zip_end c.args.led.now c.args.rows.now c.loop-is_led.yielded
    c.into_iter-is_led-iterator.result c.loop-is_led.is_led-iterator c.next.new.self _ (cc) (cc)
    c.loop-is_led.yielded_by c.in-None.is c.next.ensures.steps in
    all_seen (is_reached_by c.args.led.now) c.args.led.now c.args.rows.now c.loop-is_led.next.items (length c.loop-is_led.yielded) ended c.loop-is_led.invariant
