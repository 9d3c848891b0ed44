use Rattle.std.proofs.Common.{map}
use Rattle.ent_finder.specs.Slots.{held}
use Rattle.lint_reach.specs.Reached.{references_at}
use Rattle.lint_reach.proofs.Searching.{leads_all, leads_more, leads_nowhere}
use Rattle.lint_reach.proofs.walk.look_at_all.Goals as goal

pub loop-place-init : goal.loop-place-init
loop-place-init g c = leads_nowhere (map held (g.P.Policies.slots c.args.policies.now)) c.args.search.now c.requires

pub loop-place-preserved : goal.loop-place-preserved
loop-place-preserved g c =
    let modules = map held (g.P.Policies.slots c.args.policies.now) in
    leads_more modules (references_at modules) c.args.places.now c.loop-place.place-index c.place-item.result
    _ c.loop-place.search c.look_at.new.search c.loop-place-test.true c.place-item.is c.loop-place.invariant c.in_ok-look_at.ensures

pub returns : goal.returns
returns g c =
    let modules = map held (g.P.Policies.slots c.args.policies.now) in
    leads_all modules (references_at modules) c.args.places.now c.loop-place.place-index _ _ c.loop-place-test.false c.loop-place.invariant
