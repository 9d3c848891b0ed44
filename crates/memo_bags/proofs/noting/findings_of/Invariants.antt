use Rattle.memo_bags.proofs.FoundAll.{IsFound}
use Rattle.memo_bags.proofs.noting.findings_of.Given as goal

abbrev pub invariant-loop-number : goal.invariant-loop-number
invariant-loop-number g l = IsFound (g.L.LookUps.looks l.scene.held.now) l.scene l.initial.findings l.findings l.asked l.number-index l.found
