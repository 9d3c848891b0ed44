use Rattle.std.proofs.Common.{refl, sym, ◌∙◌}
use Rattle.ent_values.specs.Bags.{AllOfType}
use Rattle.ent_finder.proofs.Seats.{carried, read_seen, seat_key, written_seen, written_sorted}
use Rattle.ent_finder.specs.RowEntry.{row_entry}
use Rattle.ent_finder.proofs.Totals.{row_cmp_total}
use Rattle.ent_finder.proofs.rows.swap_row.Goals as goal

pub invariant_of-index_mut : goal.invariant_of-index_mut
invariant_of-index_mut c =
    let key = seat_key row_cmp_total row_entry _ _ _ _ _ _ c.in_ok-index.ensures.seat c.index_mut.ensures.value in
    record { typed = carried (λ k vs. AllOfType k.datatype vs) _ _ _ _ c.swap.ensures.x_after (sym key) c.requires.types }

pub returns-clause-sorted : goal.returns-clause-sorted
returns-clause-sorted c = written_sorted row_cmp_total row_entry _ _ _ _ _ _ c.in_ok-index.ensures.seat c.index_mut.ensures.value _ _ refl c.swap.ensures.x_after c.requires.sorted

pub returns-clause-swapped : goal.returns-clause-swapped
returns-clause-swapped c = written_seen row_cmp_total row_entry _ _ _ _ _ _ c.in_ok-index.ensures.seat c.index_mut.ensures.value _ _ refl c.swap.ensures.x_after c.requires.sorted

pub returns-clause-taken : goal.returns-clause-taken
returns-clause-taken c = c.swap.ensures.y_after ∙ read_seen row_cmp_total row_entry _ _ _ _ _ _ c.in_ok-index.ensures.seat c.index_mut.ensures.value c.requires.sorted

pub returns-clause-own : goal.returns-clause-own
returns-clause-own c =
    let key = seat_key row_cmp_total row_entry _ _ _ _ _ _ c.in_ok-index.ensures.seat c.index_mut.ensures.value in
    carried (λ k vs. AllOfType k.datatype vs) _ _ _ _ c.swap.ensures.y_after key c.index_mut.result.now.typed
