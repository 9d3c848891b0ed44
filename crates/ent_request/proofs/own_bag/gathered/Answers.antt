use Rattle.std.proofs.Common.{List, ◌∙◌, ap}
use Rattle.std.specs.List.{flat_map}
use Rattle.ent_values.specs.Bags.{Contents}
use Rattle.ent_values.specs.declared.datatype.DataType.{DataType}
use Rattle.ent_values.specs.declared.value.Value.{Value}
use Rattle.ent_request.specs.proofs_only.Sought.{designator_of, values_of}
use Rattle.ent_request.proofs.Apart.{adds_all, of_categories}
use Rattle.ent_request.proofs.own_bag.gathered.Goals as goal

pub returns : goal.returns
returns c =
    let d = designator_of c.args.sought.now in
    let categories = c.as_slice-category-items.result.now in
    let bag = c.loop-category.bag in
    let contents : DataType → List Value → Contents = λ datatype values. record { datatype = datatype; values = values } in
    ap (λ datatype. contents datatype bag.values) c.loop-category.invariant.datatype
    ∙ ap (contents c.args.sought.now.datatype)
    (adds_all (values_of d) categories c.loop-category.category-index (flat_map (values_of d) categories) bag.values c.loop-category.invariant.values c.loop-category-test.false
    ∙ of_categories d c.args.request.now categories c.as_slice-category-items.ensures)
