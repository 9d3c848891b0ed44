use Rattle.std.proofs.Common.{◌+◌, ◌*◌}
use Rattle.ent_walk.specs.proofs_only.Comes.{Keeps}
use Rattle.ent_walk.specs.proofs_only.Gathered.{HasGathered}
use Rattle.ent_walk.specs.Judged.{stops}
use Rattle.ent_walk.specs.proofs_only.Hops.{settled_child}
use Rattle.ent_walk.specs.proofs_only.Opened.{worth, worth_of_hop}
use Rattle.ent_trace.specs.proofs_only.Path.{keys_of}
use Rattle.ent_walk.proofs.Going.{IsGoing, values_to}
use Rattle.ent_walk.proofs.walk.Walk.+child.Given as goal

abbrev pub decreases-child : goal.decreases-child
decreases-child g l = l.hops * worth_of_hop + 8 * goal.size-child g l + 9

abbrev pub decreases-next_child : goal.decreases-next_child
decreases-next_child g l = l.hops * worth_of_hop + 8 * goal.size-next_child g l + 10

abbrev pub decreases-next_left : goal.decreases-next_left
decreases-next_left g l = worth l.opened + 9

abbrev pub decreases-judge : goal.decreases-judge
decreases-judge g l = worth l.opened + 8

abbrev pub decreases-set_after : goal.decreases-set_after
decreases-set_after g l = l.hops * worth_of_hop + 8 * goal.size-set_after g l + 7

abbrev pub decreases-in_set : goal.decreases-in_set
decreases-in_set g l = l.hops * worth_of_hop + 8 * goal.size-in_set g l + 6

abbrev pub decreases-settled_children : goal.decreases-settled_children
decreases-settled_children g l = l.hops * worth_of_hop + 8 * goal.size-settled_children g l + 5

abbrev pub decreases-children_under : goal.decreases-children_under
decreases-children_under g l = l.hops * worth_of_hop + 8 * goal.size-children_under g l + 4

abbrev pub decreases-children : goal.decreases-children
decreases-children g l = l.hops * worth_of_hop + 8 * goal.size-children g l + 11

abbrev pub decreases-only_one : goal.decreases-only_one
decreases-only_one g l = l.hops * worth_of_hop + 8 * goal.size-only_one g l + 11

abbrev pub decreases-chosen_child : goal.decreases-chosen_child
decreases-chosen_child g l = l.hops * worth_of_hop + 8 * goal.size-chosen_child g l + 10

abbrev pub invariant-children-loop-child : goal.invariant-children-loop-child
invariant-children-loop-child g l = record {
  going : IsGoing (stops l.fn.algorithm) (settled_child (g.L.LookUps.looks l.initial.self.lender.held) l.initial.self.lender.request l.fn.hops (keys_of l.path)) l.children l.child-index l.initial.self.notes l.self.notes;
  gathered : HasGathered l.fn.algorithm l.gathering (values_to (settled_child (g.L.LookUps.looks l.initial.self.lender.held) l.initial.self.lender.request l.fn.hops (keys_of l.path)) l.children l.child-index);
  keeps : Keeps l.initial.self l.self;
}
