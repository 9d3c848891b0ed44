use Rattle.std.proofs.Common.{◌++◌, ap, arith, subst, refl, sym, ◌∙◌}
use Rattle.ent_values.specs.Bags.{AllOfType}
use Rattle.ent_finder.proofs.Gathered.{type_of_each, values_in, values_of-rows}
use Rattle.ent_finder.proofs.Refusals.{refused, some_in}
use Rattle.ent_finder.proofs.rows.add_named.Goals as goal

pub loop-row-init : goal.loop-row-init
loop-row-init c = record {
  datatype = refl;
  values = ap (λ vs. c.args.bag.now.values ++ vs) (ap values_in c.bounds-start.ensures.named ∙ sym (values_of-rows c.args.key.now c.args.rows.now c.requires.sorted));
}

-- the row has the type in its key, which is the one in the key that names it
pub add_all-requires : goal.add_all-requires
add_all-requires c =
    let row = c.row-item.result in
    let same = type_of_each c.args.key.now c.args.rows.now _ c.loop-row.row-index row c.bounds-start.ensures.named (omega arith) c.row-item.is in
    subst (λ vs. AllOfType c.loop-row.bag.datatype vs) (sym c.as_slice.ensures) (subst (λ t. AllOfType t row.values) (same ∙ sym c.requires.datatype ∙ sym c.loop-row.invariant.datatype) row.typed)

-- memory was refused for values of this row
pub returns-in_err-add_all-clause-memory : goal.returns-in_err-add_all-clause-memory
returns-in_err-add_all-clause-memory c =
    let row = c.row-item.result in
    refused c.from_residual.result (λ none.
    some_in _ c.loop-row.row-index row c.loop-row-test.true c.row-item.is (λ e. c.in_err-add_all.ensures.memory (c.as_slice.ensures ∙ e))
    (ap values_in c.bounds-start.ensures.named ∙ sym (values_of-rows c.args.key.now c.args.rows.now c.requires.sorted) ∙ none))
