-- What is known of the tests of entries, each at the place of its entry.
use Rattle.std.specs.Prelude.{◌≡◌, ℕ, List, Some, slice_get}
use Rattle.ent_values.specs.Bags.{Contents}
use Rattle.ent_request.specs.Looks.{Looks}
use Rattle.ent_request.specs.Questions.{AreNumbers}
use Rattle.ent_request.specs.declared.question.Question.{Question}
use Rattle.ent_request.specs.declared.request.Request.{Request}
use Rattle.memo_plan.specs.Heard.{Came}
use Rattle.memo_bags.specs.Findings.{AreFindings, IsAt}
use Rattle.memo_bags.specs.declared.findings.Findings.{Findings}
use Rattle.memo_plan.specs.Plan.{task_came}
use Rattle.memo_plan.specs.declared.task.Entry.{Entry}
use Rattle.memo_plan.specs.declared.task.Item.TheVariants as item
use Rattle.memo_plan.specs.declared.task.TestTask.{TestTask}
use Rattle.memo_tests.specs.Tested.{IsTest, came_of}
use Rattle.memo_tests.specs.declared.outcome.TestOutcome.{TestOutcome}
use Rattle.memo_tests.specs.declared.test.Test.{Test}

-- the test at a place of entries
abbrev pub StandsThere : List Entry → ℕ → TestTask → Type 0
StandsThere entries place t = (e : Entry) × ((slice_get entries place ≡ Some e) × (e.item ≡ item.Test t))

-- a task as a test
abbrev pub test_of : TestTask → Looks → Request → Came
test_of t looks request = task_came t (record { looks = looks; request = request })

-- what is known at each place is known of the test that stands there
abbrev pub AreTestsOf : Looks → List Question → List Contents → List Entry → List Test → Type 0
AreTestsOf at questions bags entries tests = (place : ℕ) (t : TestTask) → StandsThere entries place t
    → (x : Test) × ((slice_get tests place ≡ Some x) × IsTest at questions bags (test_of t) x)

-- the outcome of that number of the test at a place is this
abbrev pub TellsIn : List Question → List Test → ℕ → ℕ → Came → Type 0
TellsIn questions tests place n c = (x : Test) × ((slice_get tests place ≡ Some x)
    × ((o : TestOutcome) × ((slice_get x.outcomes.items n ≡ Some o) × (AreNumbers questions o.asked × (c ≡ came_of questions o)))))

-- over what is held, findings are at these names, and what is known of tests is known of those of entries
pub record AreKnown (looks : Looks) (entries : List Entry) (p a r : List ℕ) (questions : List Question) (found : Findings) (known : List Test) : Type 0 where
  pub findings : AreFindings looks questions found
  pub person : IsAt found.people p
  pub action : IsAt found.actions a
  pub resource : IsAt found.resources r
  pub tests : AreTestsOf looks questions found.bags entries known
