use Rattle.std.proofs.Common.{[], arith, subst, sym}
use Rattle.std.proofs.lemmas.Result.{err_from_is_err_and}
use Rattle.ent_finder.proofs.RowKeys.{row_cmp_antisymmetric}
use Rattle.ent_finder.proofs.Seats.{gap_within, none_seen, seat_made, seat_there}
use Rattle.ent_finder.specs.proofs_only.Places.{IsSeat}
use Rattle.ent_finder.specs.RowEntry.{row_entries, row_entry}
use Rattle.ent_finder.specs.Rows.{row_cmp}
use Rattle.ent_finder.proofs.Totals.{row_cmp_total}
use Rattle.ent_finder.proofs.rows.make_row.Goals as goal

pub returns-in-Ok-clause-seat : goal.returns-in-Ok-clause-seat
returns-in-Ok-clause-seat c =
    seat_there row_cmp_total row_entry c.args.key.now c.args.rows.now.items c.in-Ok.index [] row_cmp_antisymmetric (rw c.deref.ensures.value at c.in-Ok.ensures.found)

pub returns-in_err-key-in-Err-clause-absent : goal.returns-in_err-key-in-Err-clause-absent
returns-in_err-key-in-Err-clause-absent c =
    let p = err_from_is_err_and c.from_residual.result c.from_residual.ensures.1 in
    rw p.1 (none_seen row_cmp_total row_entry c.args.key.now c.args.rows.now.items c.in-Err.index c.requires (rw c.deref.ensures.value at c.in-Err.ensures.absent))

pub insert-requires : goal.insert-requires
insert-requires c =
    let within = gap_within row_cmp_total row_entry c.args.key.now c.args.rows.now.items c.in-Err.index (rw c.deref.ensures.value at c.in-Err.ensures.absent) in
    omega arith

pub returns-in_err-insert-in-Err-clause-absent : goal.returns-in_err-insert-in-Err-clause-absent
returns-in_err-insert-in-Err-clause-absent c =
    let p = err_from_is_err_and c.from_residual-in_err-insert-in-Err.result c.from_residual-in_err-insert-in-Err.ensures.1 in
    rw p.1 (none_seen row_cmp_total row_entry c.args.key.now c.args.rows.now.items c.in-Err.index c.requires (rw c.deref.ensures.value at c.in-Err.ensures.absent))

pub returns-in_ok-insert-in-Err-clause-seat : goal.returns-in_ok-insert-in-Err-clause-seat
returns-in_ok-insert-in-Err-clause-seat c =
    let gap = rw c.deref.ensures.value at c.in-Err.ensures.absent in
    subst (λ xs. IsSeat row_cmp [] c.args.key.now (row_entries c.args.rows.now.items) (row_entries xs) c.in-Err.index) (sym c.in_ok-insert-in-Err.ensures.items)
    (seat_made row_cmp_total row_entry c.args.key.now c.args.rows.now.items c.in-Err.index c.requires gap [] _ c.in_ok-key-in-Err.ensures c.new-values.ensures)
