use Rattle.std.proofs.Common.{[], ◌<◌, ap, subst, sym, unwrap_or, ◌∙◌}
use Rattle.ent_finder.proofs.BlockRows.{sorted_block}
use Rattle.ent_finder.proofs.Homes.{exchanged_at, got_at, kept_at, on_err, on_ok, some_there, sorted_at, still_filled}
use Rattle.ent_finder.proofs.blocks.swap_in_block.Goals as goal

pub swap_row-requires-clause-sorted : goal.swap_row-requires-clause-sorted
swap_row-requires-clause-sorted c =
    let blocks = c.args.blocks.now.items in
    let number = c.home-number.result in
    let block = c.index_mut.result.now in
    let found = c.index_mut.ensures.value in
    let within = (rw c.deref.ensures.value at c.home-number.ensures.within) (subst (λ n. 0 < n) c.args.blocks.now.ok.0 (some_there _ c.if-is_empty.ensures)) in
    sorted_block blocks number block within found c.requires.sorted

pub invariant_of-index_mut : goal.invariant_of-index_mut
invariant_of-index_mut c =
    let blocks = c.args.blocks.now.items in
    let number = c.home-number.result in
    let block = c.index_mut.result.now in
    let found = c.index_mut.ensures.value in
    let within = (rw c.deref.ensures.value at c.home-number.ensures.within) (subst (λ n. 0 < n) c.args.blocks.now.ok.0 (some_there _ c.if-is_empty.ensures)) in
    let sorted = sorted_block blocks number block within found c.requires.sorted in
    record { filled = still_filled block.rows.items c.swap_row.new.rows.items sorted c.swap_row.ensures.sorted c.args.key.now c.args.values.now c.swap_row.result c.swap_row.ensures.swapped c.swap_row.ensures.kept block.filled }

pub returns-clause-sorted : goal.returns-clause-sorted
returns-clause-sorted c =
    let blocks = c.args.blocks.now.items in
    let number = c.home-number.result in
    let block = c.index_mut.result.now in
    let found = c.index_mut.ensures.value in
    let within = (rw c.deref.ensures.value at c.home-number.ensures.within) (subst (λ n. 0 < n) c.args.blocks.now.ok.0 (some_there _ c.if-is_empty.ensures)) in
    let home = rw c.deref.ensures.value at c.home-number.ensures.home in
    sorted_at c.args.key.now blocks number block within found c.requires.sorted home _ c.swap_row.ensures.sorted c.args.values.now c.swap_row.result c.swap_row.ensures.swapped c.swap_row.ensures.kept

pub returns-clause-swapped : goal.returns-clause-swapped
returns-clause-swapped c =
    let blocks = c.args.blocks.now.items in
    let number = c.home-number.result in
    let block = c.index_mut.result.now in
    let found = c.index_mut.ensures.value in
    let within = (rw c.deref.ensures.value at c.home-number.ensures.within) (subst (λ n. 0 < n) c.args.blocks.now.ok.0 (some_there _ c.if-is_empty.ensures)) in
    let home = rw c.deref.ensures.value at c.home-number.ensures.home in
    on_ok c.swap_row.result (exchanged_at c.args.key.now blocks number block within found c.requires.sorted home _ c.swap_row.ensures.sorted c.args.values.now) c.swap_row.ensures.swapped

pub returns-clause-taken : goal.returns-clause-taken
returns-clause-taken c =
    let blocks = c.args.blocks.now.items in
    let number = c.home-number.result in
    let block = c.index_mut.result.now in
    let found = c.index_mut.ensures.value in
    let within = (rw c.deref.ensures.value at c.home-number.ensures.within) (subst (λ n. 0 < n) c.args.blocks.now.ok.0 (some_there _ c.if-is_empty.ensures)) in
    let home = rw c.deref.ensures.value at c.home-number.ensures.home in
    on_ok c.swap_row.result (λ e. e ∙ ap (λ o. unwrap_or o []) (sym (got_at c.args.key.now blocks number block within found c.requires.sorted home))) c.swap_row.ensures.taken

pub returns-clause-absent : goal.returns-clause-absent
returns-clause-absent c =
    let blocks = c.args.blocks.now.items in
    let number = c.home-number.result in
    let block = c.index_mut.result.now in
    let found = c.index_mut.ensures.value in
    let within = (rw c.deref.ensures.value at c.home-number.ensures.within) (subst (λ n. 0 < n) c.args.blocks.now.ok.0 (some_there _ c.if-is_empty.ensures)) in
    let home = rw c.deref.ensures.value at c.home-number.ensures.home in
    on_err c.swap_row.result (λ e. got_at c.args.key.now blocks number block within found c.requires.sorted home ∙ e) c.swap_row.ensures.absent

pub returns-clause-kept : goal.returns-clause-kept
returns-clause-kept c =
    let blocks = c.args.blocks.now.items in
    let number = c.home-number.result in
    let block = c.index_mut.result.now in
    let found = c.index_mut.ensures.value in
    let within = (rw c.deref.ensures.value at c.home-number.ensures.within) (subst (λ n. 0 < n) c.args.blocks.now.ok.0 (some_there _ c.if-is_empty.ensures)) in
    let home = rw c.deref.ensures.value at c.home-number.ensures.home in
    on_err c.swap_row.result (kept_at c.args.key.now blocks number block within found c.requires.sorted home _ c.swap_row.ensures.sorted) c.swap_row.ensures.kept
