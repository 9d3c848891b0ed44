use Rattle.std.proofs.lemmas.Result.{err_from_is_err_and}
use Rattle.ent_polform.specs.Targets.{one_all_of}
use Rattle.ent_polform.proofs.FormLemmas.{ends, goes_on}
use Rattle.ent_polform.proofs.target.all_of_list.Goals as goal

pub returns-in_err-all_of : goal.returns-in_err-all_of
returns-in_err-all_of g c =
    let p = err_from_is_err_and c.from_residual-in_err-all_of.result c.from_residual-in_err-all_of.ensures.1 in
    rw (p.1, p.2) (ends g.J.JsonTree.content one_all_of c.args.values.now c.loop-value.value-index c.value-item.result c.loop-value.all c.in_err-all_of.field-0.0
    c.loop-value-test.true c.value-item.is c.in_err-all_of.ensures c.loop-value.invariant)

pub loop-value-preserved : goal.loop-value-preserved
loop-value-preserved g c =
    rw c.in_ok-push.ensures.ok (goes_on g.J.JsonTree.content one_all_of c.args.values.now c.loop-value.value-index c.value-item.result c.loop-value.all c.in_ok-all_of.field-0
    c.loop-value-test.true c.value-item.is c.in_ok-all_of.ensures c.loop-value.invariant)
