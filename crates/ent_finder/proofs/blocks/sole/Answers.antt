use Rattle.std.proofs.Common.{◌∷◌, ◌∙◌, [], ap, arith, refl, subst, sym}
use Rattle.std.proofs.lemmas.List.{append-nil}
use Rattle.ent_values.specs.Bags.{AllOfType}
use Rattle.ent_finder.proofs.Gathered.{type_of_each, values_in, values_of-rows}
use Rattle.ent_finder.specs.Blocks.{rows_in}
use Rattle.ent_finder.proofs.blocks.sole.Goals as goal

-- the values of the only row that the key names, whose type is the key's
pub returns-in-Some : goal.returns-in-Some
returns-in-Some c =
    let key = c.args.key.now in
    let rows = rows_in c.args.blocks.now in
    let row = c.in-Some.row.now in
    let only = c.in-Some.ensures in
    let type = type_of_each key rows (row ∷ []) 0 row (sym only) (omega arith) refl in
    record {
      value = c.as_slice.ensures ∙ sym (append-nil row.values) ∙ ap values_in (sym only) ∙ sym (values_of-rows key rows c.requires);
      types = subst (λ vs. AllOfType key.datatype vs) (sym c.as_slice.ensures) (subst (λ t. AllOfType t row.values) type row.typed);
    }
