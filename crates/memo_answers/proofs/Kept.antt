-- What is known of tests stays known: as questions and bags get numbers, at the same time, and as one of them learns.
use Rattle.std.proofs.Common.{◌≡◌, ℕ, zero, suc, ◌<◌, Bool, true, false, List, [], ◌∷◌, Option, Some, None, Result, Ok, Err, length, set, slice_get, refl, sym, ap, subst, ◌∙◌, arith}
use Rattle.std.proofs.lemmas.Bool.{eqb-false, eqb-true}
use Rattle.std.proofs.lemmas.Option.{slice_get_within}
use Rattle.std.specs.List.{AllByRecursion}
use Rattle.std.specs.Prelude.{IfOk, nat_eq}
use Rattle.ent_values.specs.Bags.{Contents}
use Rattle.ent_request.proofs.Numbering.{all_at}
use Rattle.ent_request.specs.Looks.{Looks}
use Rattle.ent_request.specs.Questions.{AreNumbers}
use Rattle.ent_request.specs.declared.question.Question.{Question}
use Rattle.ent_request.specs.declared.request.Request.{Request}
use Rattle.memo_plan.specs.CameBy.{came_by}
use Rattle.memo_plan.specs.Heard.{Came}
use Rattle.memo_bags.specs.Found.{IsAtTime}
use Rattle.memo_bags.specs.proofs_only.Ready.{Begins}
use Rattle.memo_bags.proofs.Growing.{get_set, some_same, starts_get, starts_itself}
use Rattle.memo_bags.proofs.Learning.{numbers_more}
use Rattle.memo_plan.specs.declared.task.Entry.{Entry}
use Rattle.memo_plan.specs.declared.task.Item.TheVariants as item
use Rattle.memo_plan.specs.declared.task.TestTask.{TestTask}
use Rattle.memo_plan.specs.declared.task.TestTask.TheVariants as task
use Rattle.memo_tests.specs.Tested.{IsTest, Rests, came_of}
use Rattle.memo_tests.specs.declared.outcome.TestOutcome.{TestOutcome}
use Rattle.memo_tests.specs.declared.test.Test.{Test}
use Rattle.memo_tests.proofs.Resting.{condition_rests, decides_rests, target_rests}
use Rattle.memo_tests.proofs.Telling.{test_at, test_grows}
use Rattle.memo_answers.specs.Known.{AreTestsOf, StandsThere, TellsIn, test_of}
use Rattle.memo_answers.specs.proofs_only.Learning.{LearnsAt}
use Rattle.memo_answers.proofs.ByWays.{TellsOnce}

-- ---- as questions and bags get numbers

module _ (at : Looks) (questions more : List Question) (bags bigger : List Contents) (first : Begins more questions) (second : Begins bigger bags) where
  pub tests_grow : (entries : List Entry) (tests : List Test) → AreTestsOf at questions bags entries tests → AreTestsOf at more bigger entries tests
  tests_grow entries tests are place t stands =
      let known = are place t stands in
      (known.0, (known.1.0, test_grows at questions more bags bigger first second (test_of t) known.0 known.1.1))

  pub tells_grow : (tests : List Test) (place n : ℕ) (c : Came) → TellsIn questions tests place n c → TellsIn more tests place n c
  tells_grow tests place n c tells =
      let o = tells.1.1.0 in
      let numbers = numbers_more at questions more bags bigger first second o.asked tells.1.1.1.1.0 in
      (tells.0, (tells.1.0, (o, (tells.1.1.1.0, (numbers.0, tells.1.1.1.1.1 ∙ ap (λ qs. came_by o.tested (record { questions = qs; failed = o.failed })) (sym numbers.1))))))

-- ---- at first

-- nothing is known of a test, whatever it is
abbrev pub IsNew : Test → Type 0
IsNew x = (at : Looks) (questions : List Question) (bags : List Contents) (test : Looks → Request → Came) → IsTest at questions bags test x

nothing_past : {A : Type 0} (xs : List A) (k : ℕ) → k < length xs → slice_get xs k ≡ None → ⊥
nothing_past [] k below past = omega (arith, below)
nothing_past (x ∷ xs) zero below past = cc
nothing_past (x ∷ xs) (suc k) below past = nothing_past xs k (omega (arith, below)) past

pub tests_new : (entries : List Entry) (tests : List Test) → length tests ≡ length entries → AllByRecursion IsNew tests → (at : Looks) (questions : List Question) (bags : List Contents) → AreTestsOf at questions bags entries tests
tests_new entries tests many new at questions bags place t stands = by (slice_get tests place) refl where
  by : (o : Option Test) → slice_get tests place ≡ o → (x : Test) × ((slice_get tests place ≡ Some x) × IsTest at questions bags (test_of t) x)
  by (Some x) there = (x, (there, all_at IsNew tests place x new there at questions bags (test_of t)))
  by None there = absurd (nothing_past tests place (omega (arith, slice_get_within entries place stands.0 stands.1.0, many)) there)

-- ---- at the same time

pub tests_at : (at s : Looks) (questions : List Question) (bags : List Contents) (entries : List Entry) (tests : List Test) → IsAtTime at s → AreTestsOf at questions bags entries tests → AreTestsOf s questions bags entries tests
tests_at at s questions bags entries tests same are place t stands =
    let known = are place t stands in
    (known.0, (known.1.0, test_at at s questions bags (test_of t) known.0 same known.1.1))

-- ---- what a number of an outcome tells

pub tells_once : (questions : List Question) (tests : List Test) → TellsOnce (TellsIn questions tests)
tells_once questions tests place n c d first second =
    let one : first.0 ≡ second.0 = some_same first.0 second.0 (sym first.1.0 ∙ second.1.0) in
    let there : slice_get second.0.outcomes.items n ≡ Some first.1.1.0 = subst (λ (x : Test). slice_get x.outcomes.items n ≡ Some first.1.1.0) one first.1.1.1.0 in
    let same : first.1.1.0 ≡ second.1.1.0 = some_same first.1.1.0 second.1.1.0 (sym there ∙ second.1.1.1.0) in
    first.1.1.1.1.1 ∙ ap (came_of questions) same ∙ sym second.1.1.1.1.1

-- the outcome of a number, in the test that stands at a place
pub outcome_there : (questions : List Question) (tests : List Test) (place n : ℕ) (c : Came) (x : Test) → TellsIn questions tests place n c → slice_get tests place ≡ Some x
    → (o : TestOutcome) × ((slice_get x.outcomes.items n ≡ Some o) × (c ≡ came_of questions o))
outcome_there questions tests place n c x tells at =
    let o = tells.1.1.0 in
    let one : tells.0 ≡ x = some_same tells.0 x (sym tells.1.0 ∙ at) in
    (o, (subst (λ (y : Test). slice_get y.outcomes.items n ≡ Some o) one tells.1.1.1.0, tells.1.1.1.1.1))

-- outcomes keep their numbers
abbrev pub KeepOutcomes : List Test → List Test → Type 0
KeepOutcomes before after = (place : ℕ) (x : Test) → slice_get before place ≡ Some x → (y : Test) × ((slice_get after place ≡ Some y) × Begins y.outcomes.items x.outcomes.items)

pub tells_still : (questions : List Question) (before after : List Test) → KeepOutcomes before after → (place n : ℕ) (c : Came) → TellsIn questions before place n c → TellsIn questions after place n c
tells_still questions before after keep place n c tells =
    let later = keep place tells.0 tells.1.0 in
    (later.0, (later.1.0, (tells.1.1.0, (starts_get tells.0.outcomes.items later.0.outcomes.items n tells.1.1.0 later.1.1 tells.1.1.1.0, tells.1.1.1.1))))

-- ---- as one learns

get_other : {A : Type 0} (xs : List A) (i j : ℕ) (y : A) → (j ≡ i → ⊥) → slice_get (set xs i y) j ≡ slice_get xs j
get_other [] i j y apart = refl
get_other (x ∷ xs) zero zero y apart = absurd (apart refl)
get_other (x ∷ xs) zero (suc j) y apart = refl
get_other (x ∷ xs) (suc i) zero y apart = refl
get_other (x ∷ xs) (suc i) (suc j) y apart = get_other xs i j y (λ same. apart (ap suc same))

-- one test stands at a place
stands_once : (entries : List Entry) (place : ℕ) (t u : TestTask) → StandsThere entries place t → StandsThere entries place u → t ≡ u
stands_once entries place t u first second =
    let one : first.0 ≡ second.0 = some_same first.0 second.0 (sym first.1.0 ∙ second.1.0) in
    same t u (sym first.1.1 ∙ ap (λ (e : Entry). e.item) one ∙ second.1.1) where
      same : (t u : TestTask) → item.Test t ≡ item.Test u → t ≡ u
      same t u e = cc

-- each test rests on what it asks
pub task_rests : (t : TestTask) → Rests (test_of t)
task_rests (task.Target x) = target_rests x
task_rests (task.RuleTarget rule) = target_rests rule.target
task_rests (task.Condition within rule) = condition_rests within.definitions rule.condition
task_rests (task.Decision within rule) = decides_rests within.definitions within.path rule

module _ {E : Type 0} (looks : Looks) (questions : List Question) (old new : List Contents) (request : Request) (o : TestOutcome) (before after : List Test) (place : ℕ) (r : Result ℕ E) (learns : LearnsAt looks questions old new request o before after place r) where
  pub learns_keeps : KeepOutcomes before after
  learns_keeps at x there = by (nat_eq at place) refl where
    by : (b : Bool) → nat_eq at place ≡ b → (y : Test) × ((slice_get after at ≡ Some y) × Begins y.outcomes.items x.outcomes.items)
    by true here =
        let is : at ≡ place = eqb-true at place here in
        let one : learns.test ≡ x = some_same learns.test x (sym learns.was ∙ ap (slice_get before) (sym is) ∙ there) in (
          learns.learnt,
          (
            ap (slice_get after) is ∙ ap (λ xs. slice_get xs place) learns.is ∙ get_set before place learns.learnt (slice_get_within before place learns.test learns.was),
            subst (λ (y : Test). Begins learns.learnt.outcomes.items y.outcomes.items) one learns.begins,
          ),
        )
    by false apart = (x, (ap (λ xs. slice_get xs at) learns.is ∙ get_other before place at learns.learnt (eqb-false at place apart) ∙ there, starts_itself x.outcomes.items x.outcomes.items refl))

  pub learns_tests : (entries : List Entry) (t : TestTask) → Begins new old → StandsThere entries place t → test_of t looks request ≡ came_of questions o
      → AreTestsOf looks questions old entries before → AreTestsOf looks questions new entries after
  learns_tests entries t bags stands came are at u there = by (nat_eq at place) refl where
    by : (b : Bool) → nat_eq at place ≡ b → (x : Test) × ((slice_get after at ≡ Some x) × IsTest looks questions new (test_of u) x)
    by true here =
        let is : at ≡ place = eqb-true at place here in
        let same : t ≡ u = stands_once entries place t u stands (subst (λ n. StandsThere entries n u) is there) in
        let known = are place t stands in
        let one : known.0 ≡ learns.test = some_same known.0 learns.test (sym known.1.0 ∙ learns.was) in
        let before_it : IsTest looks questions old (test_of t) learns.test = subst (λ (x : Test). IsTest looks questions old (test_of t) x) one known.1.1 in (
          learns.learnt,
          (
            ap (slice_get after) is ∙ ap (λ xs. slice_get xs place) learns.is ∙ get_set before place learns.learnt (slice_get_within before place learns.test learns.was),
            subst (λ v. IsTest looks questions new (test_of v) learns.learnt) same (learns.learns (test_of t) (task_rests t) came before_it),
          ),
        )
    by false apart =
        let known = are at u there in (
          known.0,
          (
            ap (λ xs. slice_get xs at) learns.is ∙ get_other before place at learns.learnt (eqb-false at place apart) ∙ known.1.0,
            test_grows looks questions questions old new (starts_itself questions questions refl) bags (test_of u) known.0 known.1.1,
          ),
        )

  pub learns_tells : (c : Came) → AreNumbers questions o.asked → c ≡ came_of questions o → IfOk r (λ n. TellsIn questions after place n c)
  learns_tells c within came = by r learns.there where
    at : slice_get after place ≡ Some learns.learnt
    at = ap (λ xs. slice_get xs place) learns.is ∙ get_set before place learns.learnt (slice_get_within before place learns.test learns.was)

    by : (r : Result ℕ E) → IfOk r (λ n. slice_get learns.learnt.outcomes.items n ≡ Some o) → IfOk r (λ n. TellsIn questions after place n c)
    by (Ok n) there = (learns.learnt, (at, (o, (there, (within, came)))))
    by (Err e) there = tt
