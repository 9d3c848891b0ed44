-- What is remembered of tests, and cases by what came of them.
use Rattle.std.specs.Prelude.{◌≡◌, List, Some, true}
use Rattle.std.specs.List.{AllByRecursion}
use Rattle.ent_values.specs.Bags.{Contents}
use Rattle.ent_request.specs.Looks.{Looks}
use Rattle.ent_request.specs.declared.question.Question.{Question}
use Rattle.ent_request.specs.declared.request.Request.{Request}
use Rattle.memo_plan.specs.Plan.{Fits, IsPlan}
use Rattle.memo_answers.specs.Known.{AreTestsOf, TellsIn}
use Rattle.memo_answers.specs.Told.{IsTold, Signs, comes_of}
use Rattle.ent_evaluator.specs.declared.plan.Plan.{Plan}
use Rattle.ent_evaluator.specs.declared.tests.PlanTests.{PlanTests}

-- a plan rests on what is held: its root is the root, the same is known of the time, and each reference names an equal document
pub record Stands (looks : Looks) (p : Plan) : Type 0 where
  pub root : looks.root ≡ Some p.root
  pub date : looks.date ≡ p.date
  pub time : looks.time ≡ p.time
  pub date_time : looks.date_time ≡ p.date_time
  pub fits : Fits p.entries looks

-- a plan is one of what is held
abbrev pub IsPlanOf : Looks → Plan → Type 0
IsPlanOf looks p = Stands looks p × IsPlan looks p.entries

-- what is known of the tests of a plan is so, and so are the cases by what came of them
pub record AreTold (looks : Looks) (questions : List Question) (bags : List Contents) (p : Plan) (t : PlanTests) : Type 0 where
  pub plan : IsPlan looks p.entries
  pub tests : AreTestsOf looks questions bags p.entries t.learnt.list.items
  pub cases : AllByRecursion (IsTold looks questions p.entries (TellsIn questions t.learnt.list.items)) t.cases

-- so it is over all that the plan rests on, whatever values are held; and a plan that was compared with what is held now rests on that
pub record AreTests (looks : Looks) (questions : List Question) (bags : List Contents) (t : PlanTests) : Type 0 where
  pub told : (p : Plan) → t.plan ≡ Some p → (s : Looks) → Stands s p → AreTold s questions bags p t
  pub compared : t.is_compared ≡ true → (p : Plan) → t.plan ≡ Some p → Stands looks p

-- there is a plan, and it rests on what is held
abbrev pub HasPlan : Looks → PlanTests → Type 0
HasPlan looks t = (p : Plan) × ((t.plan ≡ Some p) × Stands looks p)

-- the way tells what comes of the tests of the plan for a request
abbrev pub IsSigned : Looks → List Question → Request → PlanTests → Type 0
IsSigned looks questions request t = (p : Plan) × ((t.plan ≡ Some p) × (Stands looks p
    × Signs p.entries (TellsIn questions t.learnt.list.items) t.way.items (comes_of p.entries (record { looks = looks; request = request }))))
