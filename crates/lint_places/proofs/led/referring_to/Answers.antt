use Rattle.ent_policy.specs.proofs_only.Order.{has_id}
use Rattle.lint_places.specs.Led.{numbers_of}
use Rattle.lint_places.proofs.LedLemmas.{numbers_next}
use Rattle.lint_places.proofs.led.referring_to.Goals as goal

pub loop-number-preserved : goal.loop-number-preserved
loop-number-preserved c =
    let after = rw c.contains.ensures at c.in_ok-put.ensures in
    rw after (numbers_next (λ ids. has_id ids c.args.id.now) c.args.noted.now c.loop-number.number c.index-noted-number.result c.loop-number.row.items
    (numbers_of (λ ids. has_id ids c.args.id.now) 0 c.args.noted.now) c.loop-number-test.true c.index-noted-number.is c.loop-number.invariant)
