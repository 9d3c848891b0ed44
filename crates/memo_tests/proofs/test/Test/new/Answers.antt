use Rattle.memo_tests.proofs.Telling.{test_none}
use Rattle.memo_tests.proofs.test.Test.new.Goals as goal

pub returns : goal.returns
returns c = λ at questions bags test. test_none at questions bags test _ c.new-2.ensures
