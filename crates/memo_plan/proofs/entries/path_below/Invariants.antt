use Rattle.std.proofs.Common.{◌≡◌, ◌++◌, drop}
use Rattle.memo_plan.proofs.entries.path_below.Given as goal

abbrev pub invariant-loop-key : goal.invariant-loop-key
invariant-loop-key l = l.keys ++ drop l.key-index l.path ≡ l.path
