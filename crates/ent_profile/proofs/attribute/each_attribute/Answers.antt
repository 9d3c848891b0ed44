use Rattle.std.proofs.lemmas.Result.{err_from_is_err_and}
use Rattle.std.proofs.Common.{map}
use Rattle.ent_profile.specs.Asks.{attribute_of}
use Rattle.ent_profile.specs.Reading.{each}
use Rattle.ent_profile.proofs.ReadLemmas.{goes_on, ends}
use Rattle.ent_profile.proofs.attribute.each_attribute.Goals as goal

pub returns-in_err-attribute : goal.returns-in_err-attribute
returns-in_err-attribute g c =
    let p = err_from_is_err_and c.from_residual-in_err-attribute.result c.from_residual-in_err-attribute.ensures.1 in
    let vs = c.args.values.now in
    rw (p.1, p.2) (ends g.J.JsonTree.content (attribute_of) c.in_err-attribute.field-0.0 c.loop-value.all vs c.loop-value.value-index c.value-item.result
    (each (attribute_of) (map g.J.JsonTree.content vs)) c.loop-value-test.true c.value-item.is c.in_err-attribute.ensures c.loop-value.invariant)

pub loop-value-preserved : goal.loop-value-preserved
loop-value-preserved g c =
    let x = c.in_ok-attribute.field-0 in
    let vs = c.args.values.now in
    rw c.in_ok-push.ensures.ok (goes_on g.J.JsonTree.content (attribute_of) c.loop-value.all vs c.loop-value.value-index c.value-item.result x
    (each (attribute_of) (map g.J.JsonTree.content vs)) c.loop-value-test.true c.value-item.is c.in_ok-attribute.ensures c.loop-value.invariant)
