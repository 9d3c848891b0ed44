use Rattle.std.proofs.lemmas.Result.{err_from_is_err_and}
use Rattle.std.proofs.Common.{map}
use Rattle.ent_polform.specs.Values.{value_in}
use Rattle.ent_profile.specs.Reading.{each}
use Rattle.ent_profile.proofs.ReadLemmas.{goes_on, ends}
use Rattle.ent_profile.proofs.attribute.each_value.Goals as goal

pub returns-in_err-one_value : goal.returns-in_err-one_value
returns-in_err-one_value g c =
    let p = err_from_is_err_and c.from_residual-in_err-one_value.result c.from_residual-in_err-one_value.ensures.1 in
    let vs = c.args.values.now in
    rw (p.1, p.2) (ends g.J.JsonTree.content (value_in c.args.datatype) c.in_err-one_value.field-0.0 c.loop-value.all vs c.loop-value.value-index c.value-item.result
    (each (value_in c.args.datatype) (map g.J.JsonTree.content vs)) c.loop-value-test.true c.value-item.is c.in_err-one_value.ensures c.loop-value.invariant)

pub loop-value-preserved : goal.loop-value-preserved
loop-value-preserved g c =
    let x = c.in_ok-one_value.field-0 in
    let vs = c.args.values.now in
    rw c.in_ok-push.ensures.ok (goes_on g.J.JsonTree.content (value_in c.args.datatype) c.loop-value.all vs c.loop-value.value-index c.value-item.result x
    (each (value_in c.args.datatype) (map g.J.JsonTree.content vs)) c.loop-value-test.true c.value-item.is c.in_ok-one_value.ensures c.loop-value.invariant)
