use Rattle.std.proofs.Common.{◌≡◌, ◌+◌, arith, refl, sym}
use Rattle.std.proofs.lemmas.Option.{slice_get_read}
use Rattle.ent_finder.proofs.Behind.{recent}
use Rattle.ent_finder.proofs.list.last_before.Goals as goal

pub returns-then-is_unlike : goal.returns-then-is_unlike
returns-then-is_unlike c =
    let n = c.in_ok-checked_sub.field-0 in
    let found = c.in_ok-slot.ensures.lookup in
    let behind : n + 1 ≡ c.args.end = omega (arith, c.in_ok-checked_sub.ensures) in
    recent c.args.reference.now c.args.slots.now c.requires n c.in_ok-slot.slot.now (slice_get_read _ _ _ _ refl found.3.0 found.1)
    (sym c.if-is_named.ensures) (λ x at. c.if-is_unlike.ensures x (rw behind at at)) c.accepted.result c.accepted.ensures
