use Rattle.std.proofs.Common.{◌∙◌, subst}
use Rattle.ent_request.specs.Own.{own_values}
use Rattle.ent_request.specs.proofs_only.Sought.{AreSeveral, IsWhole, designator_of, values_of}
use Rattle.ent_request.proofs.Apart.{is_none, of_categories, several_of, several_with, whole}
use Rattle.ent_request.proofs.own.own_values.Goals as goal

pub returns-in_err-values_of : goal.returns-in_err-values_of
returns-in_err-values_of c =
    let d = designator_of c.args.sought.now in
    let all = own_values d c.args.request.now in
    let categories = c.as_slice-category-items.result.now in
    is_none c.from_residual.result (AreSeveral all) (λ v. IsWhole c.args.sought.now.datatype all v.now) c.from_residual.ensures
    (subst AreSeveral (of_categories d c.args.request.now categories c.as_slice-category-items.ensures)
    (several_of c.args.sought.now.datatype (values_of d) categories c.loop-category.category-index c.loop-category.so_far.now c.loop-category.invariant c.category-item.result c.loop-category-test.true c.category-item.is c.in_err-values_of.ensures))

pub returns-in_err-so_far : goal.returns-in_err-so_far
returns-in_err-so_far c =
    let d = designator_of c.args.sought.now in
    let all = own_values d c.args.request.now in
    let categories = c.as_slice-category-items.result.now in
    is_none c.from_residual-in_err-so_far.result (AreSeveral all) (λ v. IsWhole c.args.sought.now.datatype all v.now) c.from_residual-in_err-so_far.ensures
    (subst AreSeveral (of_categories d c.args.request.now categories c.as_slice-category-items.ensures)
    (several_with c.args.sought.now.datatype (values_of d) categories c.loop-category.category-index c.loop-category.so_far.now c.loop-category.invariant
    c.category-item.result c.in_ok-values_of.field-0.now c.loop-category-test.true c.category-item.is c.in_ok-values_of.ensures.0 c.in_err-so_far.ensures))

pub returns : goal.returns
returns c =
    let d = designator_of c.args.sought.now in
    let categories = c.as_slice-category-items.result.now in
    let all = whole c.args.sought.now.datatype (values_of d) categories c.loop-category.category-index c.loop-category.so_far.now c.loop-category.invariant c.loop-category-test.false in
    (all.0 ∙ of_categories d c.args.request.now categories c.as_slice-category-items.ensures, all.1)
