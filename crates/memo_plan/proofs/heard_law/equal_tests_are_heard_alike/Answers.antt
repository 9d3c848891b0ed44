use Rattle.memo_plan.proofs.HeardAlike.{heard_alike}
use Rattle.memo_plan.proofs.heard_law.equal_tests_are_heard_alike.Goals as goal

pub returns : goal.returns
returns c = heard_alike
