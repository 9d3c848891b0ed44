use Rattle.std.proofs.Common.{◌+◌, ap, cond, is_some, length, subst, sym, ◌∙◌}
use Rattle.std.specs.FinMap.{get}
use Rattle.ent_finder.proofs.Homes.{kept_length, put_length}
use Rattle.ent_finder.specs.RowEntry.{RowsAreSorted, rows_of}
use Rattle.ent_finder.proofs.blocks.swap_row.Goals as goal

pub returns-in_err-swap_in_block-clause-counted : goal.returns-in_err-swap_in_block-clause-counted
returns-in_err-swap_in_block-clause-counted c =
    let same = c.in_ok-after.ensures.rows in
    let facts = c.in_err-swap_in_block.ensures in
    c.requires.counted ∙ ap length (sym same) ∙ sym (kept_length _ _ (subst RowsAreSorted (sym same) c.requires.sorted) facts.sorted facts.kept)

pub returns-clause-counted : goal.returns-clause-counted
returns-clause-counted c =
    let same = c.in_ok-after.ensures.rows in
    let facts = c.in_ok-swap_in_block.ensures in
    let count = c.requires.counted ∙ ap length (sym same) in
    c.in_ok-after.ensures.count ∙ (λ t. cond (is_some (get (rows_of (sym same t)) c.args.key.now)) (count t) (count t + 1))
    ∙ sym (put_length _ _ (subst RowsAreSorted (sym same) c.requires.sorted) facts.sorted c.args.key.now _ facts.swapped)
