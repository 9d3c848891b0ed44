use Rattle.std.proofs.Common.{◌≤◌, sym, arith, codes}
use Rattle.std.proofs.lemmas.Result.{err_from_is_err_and}
use Rattle.serde_json.specs.Data.{depth, items_depth}
use Rattle.ent_polform.specs.Form.{child_of}
use Rattle.ent_polform.proofs.FormLemmas.{ends, goes_on, items_in}
use Rattle.ent_polform.proofs.NestedLemmas.{depth-list_at, depth-item, child_of-step}
use Rattle.ent_polform.proofs.form.+child.Goals as goal

pub set-children-requires : goal.set-children-requires
set-children-requires g t c κs within =
    let inside : items_depth (items_in g.J.JsonTree.content c.in-Some.values.now) ≤ depth (g.J.JsonTree.content c.args.object.now) =
    depth-list_at (codes "Children") (g.J.JsonTree.content c.args.object.now) (items_in g.J.JsonTree.content c.in-Some.values.now) (sym c.in-Some.ensures) in
    (omega arith, within)

pub children-child-requires : goal.children-child-requires
children-child-requires g t c κs within =
    let inside : depth (g.J.JsonTree.content c.value-item.result) ≤ items_depth (items_in g.J.JsonTree.content c.args.values.now) =
    depth-item g.J.JsonTree.content c.args.values.now c.loop-value.value-index c.value-item.result c.loop-value-test.true c.value-item.is in
    (omega arith, within)

pub children-returns-in_err-child : goal.children-returns-in_err-child
children-returns-in_err-child g t c =
    let p = err_from_is_err_and c.from_residual-in_err-child.result c.from_residual-in_err-child.ensures.1 in
    let read = child_of-step (g.J.JsonTree.content c.value-item.result) in
    rw (p.1, p.2) (ends g.J.JsonTree.content child_of c.args.values.now c.loop-value.value-index c.value-item.result c.loop-value.all c.in_err-child.field-0.0
    c.loop-value-test.true c.value-item.is (rw read c.in_err-child.ensures) c.loop-value.invariant)

pub children-loop-value-preserved : goal.children-loop-value-preserved
children-loop-value-preserved g t c =
    let read = child_of-step (g.J.JsonTree.content c.value-item.result) in
    rw c.in_ok-push.ensures.ok (goes_on g.J.JsonTree.content child_of c.args.values.now c.loop-value.value-index c.value-item.result c.loop-value.all c.in_ok-child.field-0
    c.loop-value-test.true c.value-item.is (rw read c.in_ok-child.ensures) c.loop-value.invariant)
