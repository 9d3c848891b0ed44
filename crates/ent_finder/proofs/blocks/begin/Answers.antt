use Rattle.std.proofs.Common.{ap, length, subst, sym}
use Rattle.std.proofs.lemmas.Result.{err_from_is_err_and}
use Rattle.ent_finder.proofs.Homes.{nothing_in, put_not_empty}
use Rattle.ent_finder.specs.RowEntry.{RowsAreSorted}
use Rattle.ent_finder.proofs.blocks.begin.Goals as goal

pub returns-in_err-reserve-clause-absent : goal.returns-in_err-reserve-clause-absent
returns-in_err-reserve-clause-absent c =
    let p = err_from_is_err_and c.from_residual.result c.from_residual.ensures.1 in
    rw p.1 (nothing_in c.args.key.now c.args.blocks.now.items (ap length c.requires.empty))

pub invariant_of-push : goal.invariant_of-push
invariant_of-push c =
    let facts = c.in_ok-swap_row.ensures in
    record { filled = put_not_empty c.new-rows.result.items c.swap_row.new.rows.items (subst RowsAreSorted (sym c.new-rows.ensures.items) tt) facts.sorted c.args.key.now _ facts.swapped }
