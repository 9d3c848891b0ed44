use Rattle.std.proofs.Common.{◌≤◌, sym, arith, codes}
use Rattle.std.proofs.lemmas.Result.{err_from_is_err_and}
use Rattle.serde_json.specs.Data.{depth, items_depth}
use Rattle.ent_polform.specs.Expressions.{expression_of}
use Rattle.ent_polform.proofs.FormLemmas.{ends, goes_on, items_in}
use Rattle.ent_polform.proofs.NestedLemmas.{depth-list_at, depth-item, expression_of-step}
use Rattle.ent_polform.proofs.expression.+expression.Goals as goal

pub apply-expressions-requires : goal.apply-expressions-requires
apply-expressions-requires g t c κs within =
    let inside : items_depth (items_in g.J.JsonTree.content c.in-Some.values.now) ≤ depth (g.J.JsonTree.content c.args.object.now) =
    depth-list_at (codes "Arguments") (g.J.JsonTree.content c.args.object.now) (items_in g.J.JsonTree.content c.in-Some.values.now) (sym c.in-Some.ensures) in
    (omega arith, within)

pub expressions-nested_expression-requires : goal.expressions-nested_expression-requires
expressions-nested_expression-requires g t c κs within =
    let inside : depth (g.J.JsonTree.content c.value-item.result) ≤ items_depth (items_in g.J.JsonTree.content c.args.values.now) =
    depth-item g.J.JsonTree.content c.args.values.now c.loop-value.value-index c.value-item.result c.loop-value-test.true c.value-item.is in
    (omega arith, within)

pub expressions-returns-in_err-nested_expression : goal.expressions-returns-in_err-nested_expression
expressions-returns-in_err-nested_expression g t c =
    let p = err_from_is_err_and c.from_residual-in_err-nested_expression.result c.from_residual-in_err-nested_expression.ensures.1 in
    let read = expression_of-step (g.J.JsonTree.content c.value-item.result) in
    rw (p.1, p.2) (ends g.J.JsonTree.content expression_of c.args.values.now c.loop-value.value-index c.value-item.result c.loop-value.all c.in_err-nested_expression.field-0.0
    c.loop-value-test.true c.value-item.is (rw read c.in_err-nested_expression.ensures) c.loop-value.invariant)

pub expressions-loop-value-preserved : goal.expressions-loop-value-preserved
expressions-loop-value-preserved g t c =
    let read = expression_of-step (g.J.JsonTree.content c.value-item.result) in
    rw c.in_ok-push.ensures.ok (goes_on g.J.JsonTree.content expression_of c.args.values.now c.loop-value.value-index c.value-item.result c.loop-value.all c.in_ok-nested_expression.field-0
    c.loop-value-test.true c.value-item.is (rw read c.in_ok-nested_expression.ensures) c.loop-value.invariant)
