use Rattle.memo_plan.proofs.EqualWays.{equal_ways}
use Rattle.memo_plan.proofs.law.equal_ways_are_heard_alike.Goals as goal

pub returns : goal.returns
returns c = equal_ways
