use Rattle.std.proofs.lemmas.Result.{err_from_is_err_and}
use Rattle.std.proofs.Common.{map}
use Rattle.ent_profile.specs.Asks.{category_of}
use Rattle.ent_profile.specs.Reading.{each}
use Rattle.ent_profile.proofs.ReadLemmas.{goes_on, ends}
use Rattle.ent_profile.proofs.category.each_other.Goals as goal

pub returns-in_err-category_of : goal.returns-in_err-category_of
returns-in_err-category_of g c =
    let p = err_from_is_err_and c.from_residual-in_err-category_of.result c.from_residual-in_err-category_of.ensures.1 in
    let vs = c.args.values.now in
    rw (p.1, p.2) (ends g.J.JsonTree.content (category_of) c.in_err-category_of.field-0.0 c.loop-value.all vs c.loop-value.value-index c.value-item.result
    (each (category_of) (map g.J.JsonTree.content vs)) c.loop-value-test.true c.value-item.is c.in_err-category_of.ensures c.loop-value.invariant)

pub loop-value-preserved : goal.loop-value-preserved
loop-value-preserved g c =
    let x = c.in_ok-category_of.field-0 in
    let vs = c.args.values.now in
    rw c.in_ok-push.ensures.ok (goes_on g.J.JsonTree.content (category_of) c.loop-value.all vs c.loop-value.value-index c.value-item.result x
    (each (category_of) (map g.J.JsonTree.content vs)) c.loop-value-test.true c.value-item.is c.in_ok-category_of.ensures c.loop-value.invariant)
