-- What is remembered: words of the code's own contracts.
use Rattle.std.specs.Prelude.{◌≡◌, ◌++◌, ℕ, List, [], ◌∷◌, Option, Some, None, slice_get}
use Rattle.std.specs.List.{AllByRecursion}
use Rattle.ent_values.specs.Bags.{Contents}
use Rattle.ent_evaluator.specs.declared.case.Case.{Case}
use Rattle.ent_evaluator.specs.declared.cases.Cases.{Cases}
use Rattle.ent_evaluator.specs.declared.tests.PlanTests.{PlanTests}
use Rattle.ent_request.specs.declared.question.Question.{Question}
use Rattle.ent_request.specs.declared.request.Request.{Request}
pub use Rattle.ent_eval.specs.Evaluated.{IsEvaluated}
use Rattle.memo_bags.specs.Findings.{AreFindings, IsAt}
use Rattle.memo_bags.specs.declared.findings.Findings.{Findings}
use Rattle.ent_request.specs.Looks.{Looks}
use Rattle.ent_evaluator.specs.Memory.{AreShelves, Fits, IsCase, cases_in}
use Rattle.ent_evaluator.specs.Tests.{AreTests}

-- findings are so, at the rows of three names
pub record AreNamed (looks : Looks) (questions : List Question) (found : Findings) (who what which : List ℕ) : Type 0 where
  pub findings : AreFindings looks questions found
  pub person : IsAt found.people who
  pub action : IsAt found.actions what
  pub resource : IsAt found.resources which

-- what is known of tests is so, by some bags
abbrev pub HasTests : Looks → List Question → PlanTests → Type 0
HasTests looks questions t = (bags : List Contents) × AreTests looks questions bags t

-- none of these cases fits a request
abbrev pub NoneFits : Looks → List Question → List Contents → Request → List Case → Type 0
NoneFits looks questions bags request cases = AllByRecursion (λ c. Fits looks questions bags request c → ⊥) cases

-- shelves of which each case is one still are that, where this case is one
abbrev pub KeepsShelves : Case → Cases → Cases → Type 0
KeepsShelves c old new = (looks : Looks) (questions : List Question) (bags : List Contents) → IsCase looks questions bags c → AreShelves looks questions bags old → AreShelves looks questions bags new

-- a case is among those that are remembered
abbrev pub HasPut : Case → Cases → Type 0
HasPut c cases = (i : ℕ) × (slice_get (cases_in cases) i ≡ Some c)

-- a case was put behind the others, or is given back
abbrev pub IsPut : Case → List Case → List Case → Option Case → Type 0
IsPut c old new None = new ≡ old ++ c ∷ []
IsPut c old new (Some back) = (back ≡ c) × (new ≡ old)
