use Rattle.std.proofs.Common.{None, arith, refl, subst, sym}
use Rattle.std.proofs.lemmas.Result.{err_from_is_err_and}
use Rattle.ent_finder.proofs.Keys.{key_cmp_antisymmetric}
use Rattle.ent_finder.proofs.Seats.{gap_within, none_seen, seat_made, seat_there}
use Rattle.ent_finder.specs.Entry.{entries_of, entry_of}
use Rattle.ent_finder.specs.proofs_only.Places.{IsSeat}
use Rattle.ent_finder.specs.Slots.{key_cmp}
use Rattle.ent_finder.proofs.Totals.{key_cmp_total}
use Rattle.ent_finder.proofs.list.make_slot.Goals as goal

pub returns-in-Ok-clause-seat : goal.returns-in-Ok-clause-seat
returns-in-Ok-clause-seat c =
    seat_there key_cmp_total entry_of c.args.key.now c.args.slots.now.items c.in-Ok.index None key_cmp_antisymmetric (rw c.deref.ensures.value at c.in-Ok.ensures.found)

pub returns-in_err-key-in-Err-clause-absent : goal.returns-in_err-key-in-Err-clause-absent
returns-in_err-key-in-Err-clause-absent c =
    let p = err_from_is_err_and c.from_residual.result c.from_residual.ensures.1 in
    rw p.1 (none_seen key_cmp_total entry_of c.args.key.now c.args.slots.now.items c.in-Err.index c.requires (rw c.deref.ensures.value at c.in-Err.ensures.absent))

pub insert-requires : goal.insert-requires
insert-requires c =
    let within = gap_within key_cmp_total entry_of c.args.key.now c.args.slots.now.items c.in-Err.index (rw c.deref.ensures.value at c.in-Err.ensures.absent) in
    omega arith

pub returns-in_err-insert-in-Err-clause-absent : goal.returns-in_err-insert-in-Err-clause-absent
returns-in_err-insert-in-Err-clause-absent c =
    let p = err_from_is_err_and c.from_residual-in_err-insert-in-Err.result c.from_residual-in_err-insert-in-Err.ensures.1 in
    rw p.1 (none_seen key_cmp_total entry_of c.args.key.now c.args.slots.now.items c.in-Err.index c.requires (rw c.deref.ensures.value at c.in-Err.ensures.absent))

pub returns-in_ok-insert-in-Err-clause-seat : goal.returns-in_ok-insert-in-Err-clause-seat
returns-in_ok-insert-in-Err-clause-seat c =
    let gap = rw c.deref.ensures.value at c.in-Err.ensures.absent in
    subst (λ xs. IsSeat key_cmp None c.args.key.now (entries_of c.args.slots.now.items) (entries_of xs) c.in-Err.index) (sym c.in_ok-insert-in-Err.ensures.items)
    (seat_made key_cmp_total entry_of c.args.key.now c.args.slots.now.items c.in-Err.index c.requires gap None _ c.in_ok-key-in-Err.ensures refl)
