-- Ways that are led to outcomes: a word of the code's own contracts.
use Rattle.std.specs.Prelude.{◌≡◌, ℕ, List, Some, slice_get}
use Rattle.ent_values.specs.Bags.{Contents}
use Rattle.ent_request.specs.Looks.{Looks}
use Rattle.ent_request.specs.declared.question.Question.{Question}
use Rattle.ent_request.specs.declared.request.Request.{Request}
use Rattle.memo_plan.specs.Heard.{Came}
use Rattle.memo_bags.specs.declared.finding.Finding.{Finding}
use Rattle.memo_bags.specs.Ways.{way_of}
use Rattle.memo_bags.specs.proofs_only.Led.{AreAbout}
use Rattle.memo_tests.specs.declared.outcome.TestOutcome.{TestOutcome}
use Rattle.memo_tests.specs.declared.test.Test.{Test}
use Rattle.memo_tests.specs.Tested.{IsTest, Tells}

-- whatever test this was, it still is, where the way of what was found tells the outcome of that number
abbrev pub LeadsTo : List Finding → ℕ → Test → Test → Type 0
LeadsTo found n before after = (at : Looks) (questions : List Question) (bags : List Contents) (test : Looks → Request → Came) (o : TestOutcome)
    → AreAbout questions found → slice_get before.outcomes.items n ≡ Some o → Tells at questions bags test (way_of found) o
    → IsTest at questions bags test before → IsTest at questions bags test after
