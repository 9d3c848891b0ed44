use Rattle.std.proofs.lemmas.Result.{err_from_is_err_and}
use Rattle.std.proofs.Common.{map}
use Rattle.ent_profile.specs.Asks.{category_by}
use Rattle.ent_profile.specs.Reading.{each}
use Rattle.ent_profile.proofs.ReadLemmas.{goes_on, ends}
use Rattle.ent_profile.proofs.category.each_by.Goals as goal

pub returns-in_err-category_by : goal.returns-in_err-category_by
returns-in_err-category_by g c =
    let p = err_from_is_err_and c.from_residual-in_err-category_by.result c.from_residual-in_err-category_by.ensures.1 in
    let vs = c.args.values.now in
    rw (p.1, p.2) (ends g.J.JsonTree.content (category_by c.args.uri.now) c.in_err-category_by.field-0.0 c.loop-value.all vs c.loop-value.value-index c.value-item.result
    (each (category_by c.args.uri.now) (map g.J.JsonTree.content vs)) c.loop-value-test.true c.value-item.is c.in_err-category_by.ensures c.loop-value.invariant)

pub loop-value-preserved : goal.loop-value-preserved
loop-value-preserved g c =
    let x = c.in_ok-category_by.field-0 in
    let vs = c.args.values.now in
    rw c.in_ok-push.ensures.ok (goes_on g.J.JsonTree.content (category_by c.args.uri.now) c.loop-value.all vs c.loop-value.value-index c.value-item.result x
    (each (category_by c.args.uri.now) (map g.J.JsonTree.content vs)) c.loop-value-test.true c.value-item.is c.in_ok-category_by.ensures c.loop-value.invariant)
