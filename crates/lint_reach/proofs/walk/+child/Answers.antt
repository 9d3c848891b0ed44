use Rattle.std.proofs.Common.{map}
use Rattle.ent_finder.specs.Slots.{held}
use Rattle.lint_reach.specs.Reached.{references_in}
use Rattle.lint_reach.proofs.Searching.{joined, leads_all, leads_more, leads_nowhere, leads_same}
use Rattle.lint_reach.proofs.walk.+child.Goals as goal

pub look_in_children-loop-child-init : goal.look_in_children-loop-child-init
look_in_children-loop-child-init g t c =
    leads_nowhere (map held (g.P.Policies.slots c.args.policies.now)) c.args.search.now c.requires

pub look_in_children-loop-child-preserved : goal.look_in_children-loop-child-preserved
look_in_children-loop-child-preserved g t c =
    leads_more (map held (g.P.Policies.slots c.args.policies.now)) references_in c.args.children.now c.loop-child.child-index c.child-item.result
    _ c.loop-child.search c.look_in.new.search c.loop-child-test.true c.child-item.is c.loop-child.invariant c.in_ok-look_in.ensures

pub look_in_children-returns : goal.look_in_children-returns
look_in_children-returns g t c =
    let modules = map held (g.P.Policies.slots c.args.policies.now) in
    leads_same modules _ _ _ _ (joined modules references_in c.args.children.now)
    (leads_all modules references_in c.args.children.now c.loop-child.child-index _ _ c.loop-child-test.false c.loop-child.invariant)
