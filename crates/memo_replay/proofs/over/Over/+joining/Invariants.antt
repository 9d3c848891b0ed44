use Rattle.std.proofs.Common.{◌+◌, ◌*◌}
use Rattle.std.specs.Prelude.{List, ◌++◌}
use Rattle.ent_trace.specs.proofs_only.Path.{keys_of}
use Rattle.ent_walk.specs.proofs_only.Hops.{settled_child}
use Rattle.memo_plan.specs.Heard.{Came}
use Rattle.memo_plan.specs.proofs_only.Entries.{child_tests, children_tests}
use Rattle.memo_replay.specs.proofs_only.Stands.{Stands, looks_in, request_in, scene_in}
use Rattle.memo_replay.proofs.Ruling.{Proceeds}
use Rattle.memo_replay.proofs.over.Over.+joining.Given as goal

abbrev pub decreases-child : goal.decreases-child
decreases-child g l = l.fuel * 8

abbrev pub decreases-reference : goal.decreases-reference
decreases-reference g l = l.fuel * 8 + 5

abbrev pub decreases-tree : goal.decreases-tree
decreases-tree g l = l.fuel * 8 + 4

abbrev pub decreases-set : goal.decreases-set
decreases-set g l = l.fuel * 8 + 3

abbrev pub decreases-children_of : goal.decreases-children_of
decreases-children_of g l = l.fuel * 8 + 2

abbrev pub decreases-children : goal.decreases-children
decreases-children g l = l.fuel * 8 + 1

abbrev pub invariant-children-loop-place : goal.invariant-children-loop-place
invariant-children-loop-place g l =
    (cs : List Came)
    → Stands l.self l.initial.state (children_tests l.hops (keys_of l.path) l.children (scene_in g.L.LookUps.looks l.self) ++ cs)
    → Proceeds l.self l.algorithm (settled_child (looks_in g.L.LookUps.looks l.self) (request_in l.self) l.hops (keys_of l.path))
    (λ child. child_tests l.hops (keys_of l.path) child (scene_in g.L.LookUps.looks l.self)) l.children l.place l.initial.state l.state l.gathering cs
