use Rattle.std.proofs.Common.{◌≤◌, ◌-◌, ◌^◌}
use Rattle.ent_finder.proofs.boxed.reach.Given as goal

abbrev pub invariant-loop-index : goal.invariant-loop-index
invariant-loop-index g l = 1 ≤ l.index

abbrev pub decreases-loop-index : goal.decreases-loop-index
decreases-loop-index g l = 2 ^ 64 - l.index
