use Rattle.std.proofs.lemmas.Result.{err_from_is_err_and}
use Rattle.ent_profile.specs.Asks.{category_at}
use Rattle.ent_profile.specs.Reading.{gathered}
use Rattle.ent_profile.proofs.ReadLemmas.{gathers_on, gathering_ends}
use Rattle.ent_profile.proofs.category.at_names.Goals as goal

pub returns-in_err-category_at : goal.returns-in_err-category_at
returns-in_err-category_at g c =
    let p = err_from_is_err_and c.from_residual.result c.from_residual.ensures.1 in
    let f = category_at (g.J.JsonTree.content c.args.object.now) in
    let ns = c.args.names.now in
    rw (p.1, p.2) (gathering_ends f c.in_err-category_at.field-0.0 c.loop-name.all ns c.loop-name.name-index _ (gathered f ns) c.loop-name-test.true c.in_err-category_at.ensures c.loop-name.invariant)

pub loop-name-preserved : goal.loop-name-preserved
loop-name-preserved g c =
    let f = category_at (g.J.JsonTree.content c.args.object.now) in
    let ns = c.args.names.now in
    rw c.in_ok-append.ensures.ok (gathers_on f c.loop-name.all ns c.loop-name.name-index _ c.in_ok-category_at.field-0
    (gathered f ns) c.loop-name-test.true c.in_ok-category_at.ensures c.loop-name.invariant)
