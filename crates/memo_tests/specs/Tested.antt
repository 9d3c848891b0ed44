-- What tests come to, by the bags that their questions find.
use Rattle.std.specs.Prelude.{◌≡◌, ℕ, List, [], Some, slice_get}
use Rattle.std.specs.List.{AllByRecursion}
use Rattle.memo_trie.specs.Tree.{Leads}
use Rattle.ent_values.specs.Bags.{Contents}
use Rattle.ent_request.specs.Listed.{listed}
use Rattle.ent_request.specs.Looks.{Looks}
use Rattle.ent_request.specs.Questions.{AreNumbers, at_numbers}
use Rattle.ent_request.specs.declared.question.Question.{Question}
use Rattle.ent_request.specs.declared.request.Request.{Request}
use Rattle.ent_walk.specs.Law.{FindsSame}
use Rattle.memo_plan.specs.CameBy.{came_by}
use Rattle.memo_plan.specs.Heard.{Came, condition, decides, gives, named, target}
use Rattle.memo_bags.specs.Found.{IsAtTime, IsAttribute}
use Rattle.memo_bags.specs.Ways.{AsksAbout, FindsWay, IsTurn, Way}
use Rattle.memo_tests.specs.declared.outcome.TestOutcome.{TestOutcome}
use Rattle.memo_tests.specs.declared.test.Test.{Test}

-- what is heard of a test, by an outcome of it, over the questions that have a number
abbrev pub came_of : List Question → TestOutcome → Came
came_of questions o = came_by o.tested (record { questions = at_numbers questions o.asked; failed = o.failed })

-- the questions that are asked for a test
abbrev pub asked_by : Came → List Question
asked_by (target h) = h.gist.questions
asked_by (condition h) = h.gist.questions
asked_by (decides h) = h.gist.questions
asked_by (gives own) = []
asked_by (named document) = []

-- a test asks for attributes alone, and rests on what it asks: it comes to the same for each request, and whatever is
-- held then, for which its questions find the same
pub record Rests (test : Looks → Request → Came) : Type 0 where
  pub attributes : (looks : Looks) (request : Request) → AllByRecursion IsAttribute (asked_by (test looks request))
  pub same : (s t : Looks) (q r : Request) → AllByRecursion (FindsSame s q t r) (asked_by (test s q)) → test t r ≡ test s q

-- each listed request that finds what a way says has this outcome of a test, whatever is held then, at that time
pub record Tells (at : Looks) (questions : List Question) (bags : List Contents) (test : Looks → Request → Came) (way : Way) (o : TestOutcome) : Type 0 where
  pub turns : AllByRecursion (IsTurn questions bags) way
  pub within : AreNumbers questions o.asked
  pub comes : (t : Looks) → IsAtTime at t → (person action resource : List ℕ) → FindsWay t questions bags (listed person action resource) way
      → test t (listed person action resource) ≡ came_of questions o

-- each way of a test's tree leads to an outcome that it tells
pub record IsTest (at : Looks) (questions : List Question) (bags : List Contents) (test : Looks → Request → Came) (x : Test) : Type 0 where
  pub asks : AsksAbout questions x.tree.nodes.items
  pub told : (way : Way) (n : ℕ) → Leads x.tree.nodes.items way n → (o : TestOutcome) × ((slice_get x.outcomes.items n ≡ Some o) × Tells at questions bags test way o)

-- whatever test this is, a request comes to its outcome of that number
abbrev pub ComesTo : Looks → List Question → List Contents → Request → Test → ℕ → Type 0
ComesTo looks questions bags request x n = (test : Looks → Request → Came) → IsTest looks questions bags test x
    → (o : TestOutcome) × ((slice_get x.outcomes.items n ≡ Some o) × (AreNumbers questions o.asked × (test looks request ≡ came_of questions o)))

-- whatever test this was that comes to an outcome for a request, it still is, over more bags
abbrev pub Learns : Looks → List Question → List Contents → List Contents → Request → TestOutcome → Test → Test → Type 0
Learns looks questions old new request o before after = (test : Looks → Request → Came) → Rests test → test looks request ≡ came_of questions o
    → IsTest looks questions old test before → IsTest looks questions new test after
