use Rattle.std.proofs.Common.{◌-◌, length}
use Rattle.memo_bags.proofs.Seeking.{IsSeeking}
use Rattle.memo_bags.proofs.ways.seek.Given as goal

abbrev pub invariant-loop-fork : goal.invariant-loop-fork
invariant-loop-fork g l = IsSeeking (g.L.LookUps.looks l.scene.held.now) l.scene l.initial.findings l.findings l.tree.nodes.items l.place

abbrev pub decreases-loop-fork : goal.decreases-loop-fork
decreases-loop-fork g l = length l.tree.nodes.items - l.place
