use Rattle.std.proofs.Common.{◌++◌}
use Rattle.std.specs.Prelude.{bytes_eq}
use Rattle.ent_functions.specs.Identifiers.{functions_at, id_of}
use Rattle.ent_functions.specs.declared.function.Element.TheVariants as elements
use Rattle.ent_functions.specs.declared.function.Function.{Function}
use Rattle.ent_functions.proofs.Groups.{or_found}
use Rattle.ent_functions.proofs.identifiers.of_element.Goals as goal

pub returns : goal.returns
returns c =
    let named = λ (f : Function). bytes_eq c.args.id.now (id_of f) in
    let two = functions_at elements.Text ++ functions_at elements.Boolean in
    let three = two ++ functions_at elements.Integer in
    let four = three ++ functions_at elements.Date in
    let five = four ++ functions_at elements.AnyUri in
    let six = five ++ functions_at elements.Time in
    or_found named six (functions_at elements.DateTime)
    (or_found named five (functions_at elements.Time)
    (or_found named four (functions_at elements.AnyUri)
    (or_found named three (functions_at elements.Date)
    (or_found named two (functions_at elements.Integer)
    (or_found named (functions_at elements.Text) (functions_at elements.Boolean) c.function_at.ensures c.function_at-2.ensures c.or.ensures)
    c.function_at-3.ensures
    c.or-2.ensures)
    c.function_at-4.ensures
    c.or-3.ensures)
    c.function_at-5.ensures
    c.or-4.ensures)
    c.function_at-6.ensures
    c.or-5.ensures)
    c.function_at-7.ensures
    c.or-6.ensures
