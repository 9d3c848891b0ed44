use Rattle.std.proofs.lemmas.Result.{err_from_is_err_and}
use Rattle.ent_polform.specs.Given.{given_by}
use Rattle.lint_places.proofs.ListLemmas.{ends, goes_on}
use Rattle.lint_places.proofs.reading.all_given.Goals as goal

pub returns-in_err-given_expression : goal.returns-in_err-given_expression
returns-in_err-given_expression g c =
    let p = err_from_is_err_and c.from_residual-in_err-given_expression.result c.from_residual-in_err-given_expression.ensures.1 in
    rw (p.1, p.2) (ends g.J.JsonTree.content (λ n. given_by c.args.id_key.now c.args.effect_key.now) c.args.values.now c.loop-value.value-index c.value-item.result c.loop-value.all c.in_err-given_expression.field-0.0
    c.loop-value-test.true c.value-item.is c.in_err-given_expression.ensures c.loop-value.invariant)

pub loop-value-preserved : goal.loop-value-preserved
loop-value-preserved g c =
    rw c.in_ok-push.ensures.ok (goes_on g.J.JsonTree.content (λ n. given_by c.args.id_key.now c.args.effect_key.now) c.args.values.now c.loop-value.value-index c.value-item.result c.loop-value.all c.in_ok-given_expression.field-0
    c.loop-value-test.true c.value-item.is c.in_ok-given_expression.ensures c.loop-value.invariant)
