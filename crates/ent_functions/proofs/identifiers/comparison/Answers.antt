use Rattle.std.proofs.Common.{◌++◌}
use Rattle.std.specs.Prelude.{bytes_eq}
use Rattle.ent_functions.specs.Identifiers.{comparisons_at, id_of}
use Rattle.ent_functions.specs.declared.function.Function.{Function}
use Rattle.ent_functions.specs.declared.function.Ordered.TheVariants as ordered
use Rattle.ent_functions.proofs.Groups.{or_found}
use Rattle.ent_functions.proofs.identifiers.comparison.Goals as goal

pub returns : goal.returns
returns c =
    let named = λ (f : Function). bytes_eq c.args.id.now (id_of f) in
    let two = comparisons_at ordered.Integer ++ comparisons_at ordered.Text in
    let three = two ++ comparisons_at ordered.Date in
    let four = three ++ comparisons_at ordered.Time in
    or_found named four (comparisons_at ordered.DateTime)
    (or_found named three (comparisons_at ordered.Time)
    (or_found named two (comparisons_at ordered.Date)
    (or_found named (comparisons_at ordered.Integer) (comparisons_at ordered.Text) c.comparison_at.ensures c.comparison_at-2.ensures c.or.ensures)
    c.comparison_at-3.ensures
    c.or-2.ensures)
    c.comparison_at-4.ensures
    c.or-3.ensures)
    c.comparison_at-5.ensures
    c.or-4.ensures
