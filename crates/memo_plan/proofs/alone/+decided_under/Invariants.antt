use Rattle.std.proofs.Common.{length}
use Rattle.memo_plan.proofs.alone.+decided_under.Given as goal

abbrev pub decreases-decided_under : goal.decreases-decided_under
decreases-decided_under g l = length l.keys.now
