use Rattle.std.proofs.Common.{◌≡◌, refl, sym, ◌∙◌}
use Rattle.std.specs.FinMap.{get}
use Rattle.std.specs.Option.{ForSome}
use Rattle.ent_policy.specs.Key.{key_of}
use Rattle.ent_finder.proofs.Held.{flatten_is}
use Rattle.ent_finder.proofs.Seats.{carried, read_seen, seat_key, written_seen, written_sorted}
use Rattle.ent_finder.specs.Entry.{entry_of, slots_of}
use Rattle.ent_finder.proofs.Totals.{key_cmp_total}
use Rattle.ent_finder.proofs.list.swap_document.Goals as goal

pub invariant_of-index_mut : goal.invariant_of-index_mut
invariant_of-index_mut c =
    let key = seat_key key_cmp_total entry_of _ _ _ _ _ _ c.in_ok-index.ensures.seat c.index_mut.ensures.value in
    record { keyed = carried (λ k o. ForSome o (λ d. key_of d ≡ k)) _ _ _ _ c.swap.ensures.x_after (sym key) c.requires.key }

pub returns-clause-sorted : goal.returns-clause-sorted
returns-clause-sorted c = written_sorted key_cmp_total entry_of _ _ _ _ _ _ c.in_ok-index.ensures.seat c.index_mut.ensures.value _ _ refl c.swap.ensures.x_after c.requires.sorted

pub returns-clause-swapped : goal.returns-clause-swapped
returns-clause-swapped c = written_seen key_cmp_total entry_of _ _ _ _ _ _ c.in_ok-index.ensures.seat c.index_mut.ensures.value _ _ refl c.swap.ensures.x_after c.requires.sorted

pub returns-clause-taken : goal.returns-clause-taken
returns-clause-taken c = c.swap.ensures.y_after ∙ read_seen key_cmp_total entry_of _ _ _ _ _ _ c.in_ok-index.ensures.seat c.index_mut.ensures.value c.requires.sorted ∙ flatten_is (get (slots_of c.args.slots.now.items) c.args.key.now)

pub returns-clause-own : goal.returns-clause-own
returns-clause-own c =
    let key = seat_key key_cmp_total entry_of _ _ _ _ _ _ c.in_ok-index.ensures.seat c.index_mut.ensures.value in
    carried (λ k o. ForSome o (λ d. key_of d ≡ k)) _ _ _ _ c.swap.ensures.y_after key c.index_mut.result.now.keyed
