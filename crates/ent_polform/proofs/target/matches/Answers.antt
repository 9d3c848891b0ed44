use Rattle.std.proofs.lemmas.Result.{err_from_is_err_and}
use Rattle.ent_polform.specs.Targets.{match_of}
use Rattle.ent_polform.proofs.FormLemmas.{ends, goes_on}
use Rattle.ent_polform.proofs.target.matches.Goals as goal

pub returns-in_err-one_match : goal.returns-in_err-one_match
returns-in_err-one_match g c =
    let p = err_from_is_err_and c.from_residual-in_err-one_match.result c.from_residual-in_err-one_match.ensures.1 in
    rw (p.1, p.2) (ends g.J.JsonTree.content match_of c.args.values.now c.loop-value.value-index c.value-item.result c.loop-value.all c.in_err-one_match.field-0.0
    c.loop-value-test.true c.value-item.is c.in_err-one_match.ensures c.loop-value.invariant)

pub loop-value-preserved : goal.loop-value-preserved
loop-value-preserved g c =
    rw c.in_ok-push.ensures.ok (goes_on g.J.JsonTree.content match_of c.args.values.now c.loop-value.value-index c.value-item.result c.loop-value.all c.in_ok-one_match.field-0
    c.loop-value-test.true c.value-item.is c.in_ok-one_match.ensures c.loop-value.invariant)
