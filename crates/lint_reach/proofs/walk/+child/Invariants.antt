use Rattle.std.proofs.Common.{map, take}
use Rattle.std.specs.List.{flat_map}
use Rattle.ent_finder.specs.Slots.{held}
use Rattle.lint_reach.specs.Reached.{references_in}
use Rattle.lint_reach.specs.proofs_only.Search.{Leads}
use Rattle.lint_reach.proofs.walk.+child.Given as goal

abbrev pub invariant-look_in_children-loop-child : goal.invariant-look_in_children-loop-child
invariant-look_in_children-loop-child g l =
    Leads (map held (g.P.Policies.slots l.policies)) (flat_map references_in (take l.child-index l.children)) l.fn.search l.search
