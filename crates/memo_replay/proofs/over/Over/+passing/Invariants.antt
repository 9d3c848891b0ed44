use Rattle.std.proofs.Common.{◌+◌, ◌*◌, ◌++◌, List, drop}
use Rattle.ent_policy.specs.declared.key.DocKey.{DocKey}
use Rattle.memo_plan.specs.Heard.{Came}
use Rattle.memo_plan.specs.Plan.{Scene}
use Rattle.memo_plan.specs.proofs_only.Entries.{children_tests}
use Rattle.memo_replay.specs.proofs_only.Heard.{HearsNothing}
use Rattle.memo_replay.specs.proofs_only.Stands.{Stands}
use Rattle.memo_replay.proofs.over.Over.+passing.Given as goal

abbrev pub decreases-pass_child : goal.decreases-pass_child
decreases-pass_child g l = 5 * l.fuel

abbrev pub decreases-pass_children : goal.decreases-pass_children
decreases-pass_children g l = 5 * l.fuel + 1

abbrev pub decreases-pass_reference : goal.decreases-pass_reference
decreases-pass_reference g l = 5 * l.fuel + 4

abbrev pub decreases-pass_set : goal.decreases-pass_set
decreases-pass_set g l = 5 * l.fuel + 2

abbrev pub decreases-pass_tree : goal.decreases-pass_tree
decreases-pass_tree g l = 5 * l.fuel + 3

abbrev pub invariant-pass_children-loop-place : goal.invariant-pass_children-loop-place
invariant-pass_children-loop-place g l =
    ((w : Scene) (here : List DocKey) (cs : List Came)
    → Stands l.self l.fn.state (children_tests l.hops here (drop l.first l.children) w ++ cs)
    → Stands l.self l.state (children_tests l.hops here (drop l.place l.children) w ++ cs))
    × HearsNothing l.fn.state l.state
