use Rattle.memo_tests.proofs.Resting.{condition_rests, decides_rests, target_rests}
use Rattle.memo_tests.proofs.law.tests_rest_on_what_they_ask.Goals as goal

pub returns-clause-targets : goal.returns-clause-targets
returns-clause-targets c = target_rests

pub returns-clause-conditions : goal.returns-clause-conditions
returns-clause-conditions c = condition_rests

pub returns-clause-decisions : goal.returns-clause-decisions
returns-clause-decisions c = decides_rests
