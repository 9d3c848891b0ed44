-- What is learnt of one of several tests: a word of the code's own contracts.
use Rattle.std.specs.Prelude.{◌≡◌, ℕ, List, Result, Some, IfOk, slice_get, slice_set}
use Rattle.ent_values.specs.Bags.{Contents}
use Rattle.ent_request.specs.Looks.{Looks}
use Rattle.ent_request.specs.declared.question.Question.{Question}
use Rattle.ent_request.specs.declared.request.Request.{Request}
use Rattle.memo_bags.specs.proofs_only.Ready.{Begins}
use Rattle.memo_tests.specs.Tested.{Learns}
use Rattle.memo_tests.specs.declared.outcome.TestOutcome.{TestOutcome}
use Rattle.memo_tests.specs.declared.test.Test.{Test}

-- the test at a place learns an outcome, whose number it gives, and the others stay as they are
pub record LearnsAt {E : Type 0} (looks : Looks) (questions : List Question) (old new : List Contents) (request : Request) (o : TestOutcome) (before after : List Test) (place : ℕ) (r : Result ℕ E) : Type 0 where
  pub test : Test
  pub learnt : Test
  pub was : slice_get before place ≡ Some test
  pub is : after ≡ slice_set before place learnt
  pub there : IfOk r (λ n. slice_get learnt.outcomes.items n ≡ Some o)
  pub begins : Begins learnt.outcomes.items test.outcomes.items
  pub learns : Learns looks questions old new request o test learnt
