use Rattle.std.proofs.Common.{◌+◌, ◌*◌, take}
use Rattle.memo_plan.specs.proofs_only.Entries.{AreEntries, children_tests, worth_of_hop}
use Rattle.memo_plan.proofs.entries.+entries.Given as goal

abbrev pub decreases-reference_entries : goal.decreases-reference_entries
decreases-reference_entries g l = l.hops * worth_of_hop

abbrev pub decreases-tree_entries : goal.decreases-tree_entries
decreases-tree_entries g l = l.hops * worth_of_hop + 8 * 31 + 3

abbrev pub decreases-child_entries : goal.decreases-child_entries
decreases-child_entries g l = l.hops * worth_of_hop + 8 * goal.size-child_entries g l + 1

abbrev pub decreases-set_entries : goal.decreases-set_entries
decreases-set_entries g l = l.hops * worth_of_hop + 8 * goal.size-set_entries g l + 2

abbrev pub decreases-set_children : goal.decreases-set_children
decreases-set_children g l = l.hops * worth_of_hop + 8 * goal.size-set_children g l + 1

abbrev pub decreases-children_entries : goal.decreases-children_entries
decreases-children_entries g l = l.hops * worth_of_hop + 8 * goal.size-children_entries g l + 2

abbrev pub invariant-children_entries-loop-child : goal.invariant-children_entries-loop-child
invariant-children_entries-loop-child g l =
    AreEntries (g.L.LookUps.looks l.held) (children_tests l.hops l.path (take l.child-index l.children)) l.entries
