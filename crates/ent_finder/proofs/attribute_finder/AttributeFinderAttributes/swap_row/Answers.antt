use Rattle.std.proofs.Common.{rules}
use Rattle.std.specs.FinMap.{insert}
use Rattle.std.proofs.lemmas.List.{length-map}
use Rattle.std.proofs.lemmas.Result.{err_from_is_err_and}
use Rattle.ent_finder.proofs.Boxes.{meanings-set, meanings-set_same}
use Rattle.ent_finder.specs.Rows.{Source}
use Rattle.ent_finder.proofs.attribute_finder.AttributeFinderAttributes.swap_row.Goals as goal

pub returns-in_err-swap_in-clause-kept : goal.returns-in_err-swap_in-clause-kept
returns-in_err-swap_in-clause-kept g c =
    let p = err_from_is_err_and c.from_residual.result c.from_residual.ensures.1 in
    rw p.1 (meanings-set_same _ _ _ c.index_mut.result.now _ c.index_mut.ensures.value c.in_err-swap_in.ensures.kept)

pub returns-clause-swapped : goal.returns-clause-swapped
returns-clause-swapped g c =
    meanings-set _ (λ (s : Source). record s { rows = insert s.rows c.args.key.now c.args.values.now }) _ _ c.index_mut.result.now _ _ (search (rules, length-map)) c.index_mut.ensures.value c.in_ok-swap_in.ensures.swapped
