-- What is remembered over evaluations of listed requests: what questions find for their names, and cases.
use Rattle.std.specs.Prelude.{◌≡◌, ◌≤◌, ◌++◌, ℕ, List, [], Some, length, slice_get}
use Rattle.std.specs.List.{AllByRecursion}
use Rattle.ent_values.specs.Bags.{Contents}
use Rattle.ent_evaluator.specs.declared.case.Case.{Case}
use Rattle.ent_evaluator.specs.declared.cases.Cases.{Cases}
use Rattle.ent_evaluator.specs.declared.memory.Memory.{Memory}
use Rattle.ent_eval.specs.declared.pdp.ListedEvaluation.{ListedEvaluation}
use Rattle.ent_request.specs.declared.question.Question.{Question}
use Rattle.ent_request.specs.declared.request.Request.{Request}
use Rattle.ent_evaluator.specs.declared.shelf.Shelf.{Shelf}
use Rattle.ent_evaluator.specs.Held.{HaveSameDocuments}
use Rattle.ent_evaluator.specs.Tests.{AreTests}
use Rattle.ent_walk.specs.Answer.{answer, asked, has_cause}
use Rattle.ent_request.specs.Listed.{listed}
use Rattle.ent_request.specs.Looks.{Looks}
use Rattle.ent_request.specs.Questions.{AreNumbers, asked_once, at_numbers}
use Rattle.memo_bags.specs.Found.{FindsBag}
use Rattle.memo_bags.specs.Findings.{AreFindings, IsFinding}
use Rattle.memo_bags.specs.Ways.{AsksAbout, Way, way_of}
use Rattle.memo_trie.specs.Tree.{Leads}

-- so many cases stand on a shelf at most
abbrev pub most_cases : ℕ
most_cases = 4096

-- the cases that are remembered, the older ones first
abbrev pub cases_in : Cases → List Case
cases_in cases = cases.older.cases.items ++ cases.latest.cases.items

-- a request finds what a case found
abbrev pub Fits : Looks → List Question → List Contents → Request → Case → Type 0
Fits looks questions bags request c = AllByRecursion (λ f. FindsBag looks questions bags request f.question f.bag) c.found

-- each listed request that fits a case has its answer, asks its questions, and fails as it did, whatever values are held
pub record IsCase (looks : Looks) (questions : List Question) (bags : List Contents) (c : Case) : Type 0 where
  pub findings : AllByRecursion (IsFinding questions bags) c.found
  pub within : AreNumbers questions c.asked
  pub answer : (t : Looks) → HaveSameDocuments looks t → (person action resource : List ℕ) → Fits t questions bags (listed person action resource) c
      → answer t (listed person action resource) ≡ c.answer
  pub asked : (t : Looks) → HaveSameDocuments looks t → (person action resource : List ℕ) → Fits t questions bags (listed person action resource) c
      → at_numbers questions c.asked ≡ asked_once [] (asked t (listed person action resource))
  pub failed : (t : Looks) → HaveSameDocuments looks t → (person action resource : List ℕ) → Fits t questions bags (listed person action resource) c
      → has_cause t (listed person action resource) ≡ c.failed

-- a case gives what an evaluation gave
abbrev pub Gives : ListedEvaluation → Case → Type 0
Gives e c = (c.answer ≡ e.answer) × ((c.asked ≡ e.asked) × (c.failed ≡ e.failed))

-- the ways of what was found for a shelf's cases lead to their places, and no other way leads anywhere
pub record IsIndex (questions : List Question) (shelf : Shelf) : Type 0 where
  pub asks : AsksAbout questions shelf.tree.nodes.items
  pub led : (way : Way) (i : ℕ) → Leads shelf.tree.nodes.items way i → (c : Case) × ((slice_get shelf.cases.items i ≡ Some c) × (way ≡ way_of c.found))
  pub leads : (i : ℕ) (c : Case) → slice_get shelf.cases.items i ≡ Some c → Leads shelf.tree.nodes.items (way_of c.found) i

-- each of a shelf's cases is one, there are only so many, and each is found by its way
pub record IsShelf (looks : Looks) (questions : List Question) (bags : List Contents) (shelf : Shelf) : Type 0 where
  pub cases : AllByRecursion (IsCase looks questions bags) shelf.cases.items
  pub few : length shelf.cases.items ≤ most_cases
  pub index : IsIndex questions shelf

-- so are the cases that are remembered
pub record AreShelves (looks : Looks) (questions : List Question) (bags : List Contents) (cases : Cases) : Type 0 where
  pub older : IsShelf looks questions bags cases.older
  pub latest : IsShelf looks questions bags cases.latest

-- what is remembered is so, over these look-ups, by the numbers of these questions
pub record Remembers (looks : Looks) (questions : List Question) (memory : Memory) : Type 0 where
  pub findings : AreFindings looks questions memory.findings
  pub cases : AreShelves looks questions memory.findings.bags memory.cases
  pub tests : AreTests looks questions memory.findings.bags memory.tests

-- of these cases there is one that a request fits and of which this holds
abbrev pub HasCaseIn : Looks → List Question → List Contents → Request → List Case → (Case → Type 0) → Type 0
HasCaseIn looks questions bags request cases P = (i : ℕ) × ((c : Case) × ((slice_get cases i ≡ Some c) × (Fits looks questions bags request c × P c)))

-- a case is remembered that a request fits and of which this holds
abbrev pub HasCase : Looks → List Question → Memory → Request → (Case → Type 0) → Type 0
HasCase looks questions memory request P = HasCaseIn looks questions memory.findings.bags request (cases_in memory.cases) P

-- a case is remembered that a request fits
abbrev pub IsKnown : Looks → List Question → Memory → Request → Type 0
IsKnown looks questions memory request = HasCase looks questions memory request (λ c. Unit {0})
