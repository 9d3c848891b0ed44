use Rattle.std.proofs.lemmas.Result.{err_from_is_err_and}
use Rattle.ent_polform.specs.Given.{assignment_of}
use Rattle.ent_polform.proofs.FormLemmas.{ends, goes_on}
use Rattle.ent_polform.proofs.given.assignments.Goals as goal

pub returns-in_err-assignment : goal.returns-in_err-assignment
returns-in_err-assignment g c =
    let p = err_from_is_err_and c.from_residual-in_err-assignment.result c.from_residual-in_err-assignment.ensures.1 in
    rw (p.1, p.2) (ends g.J.JsonTree.content assignment_of c.args.values.now c.loop-value.value-index c.value-item.result c.loop-value.all c.in_err-assignment.field-0.0
    c.loop-value-test.true c.value-item.is c.in_err-assignment.ensures c.loop-value.invariant)

pub loop-value-preserved : goal.loop-value-preserved
loop-value-preserved g c =
    rw c.in_ok-push.ensures.ok (goes_on g.J.JsonTree.content assignment_of c.args.values.now c.loop-value.value-index c.value-item.result c.loop-value.all c.in_ok-assignment.field-0
    c.loop-value-test.true c.value-item.is c.in_ok-assignment.ensures c.loop-value.invariant)
