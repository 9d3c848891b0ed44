use Rattle.std.proofs.Common.{◌++◌, ◌+◌, ap, drop, slice_range, subst, sym, ◌∙◌}
use Rattle.ent_values.specs.Bags.{AllOfType}
use Rattle.ent_finder.proofs.Gathered.{one_more, type_of_each, values_in, values_of-rows}
use Rattle.ent_finder.proofs.Lying.{of_both, of_none}
use Rattle.ent_finder.proofs.rows.named_in_one.Goals as goal

pub loop-row-init : goal.loop-row-init
loop-row-init c = record {
  values = ap values_in c.bounds-start.ensures.named ∙ sym (values_of-rows c.args.key.now c.args.rows.now c.requires);
  types = of_none c.args.key.now.datatype;
}

-- the row has the type in its key, which is the one in the key that names it
pub loop-row-preserved : goal.loop-row-preserved
loop-row-preserved c =
    let row = c.row-item.result in
    let index = c.loop-row.row-index in
    let key = c.args.key.now in
    let named = slice_range c.args.rows.now c.bounds-start.result.0 c.bounds-start.result.1 in
    let before = c.loop-row.so_far.now in
    let same = type_of_each key c.args.rows.now named index row c.bounds-start.ensures.named c.loop-row-test.true c.row-item.is in
    let here = c.in_ok-so_far.ensures ∙ ap (λ vs. before ++ vs) c.as_slice.ensures in
    record {
      values = ap (λ vs. vs ++ values_in (drop (index + 1) named)) here ∙ one_more before named index row c.loop-row-test.true c.row-item.is ∙ c.loop-row.invariant.values;
      types = of_both key.datatype _ before row.values here c.loop-row.invariant.types (subst (λ t. AllOfType t row.values) same row.typed);
    }
