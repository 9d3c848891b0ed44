use Rattle.std.proofs.Common.{refl, sym, subst}
use Rattle.std.specs.Prelude.{IfSome}
use Rattle.std.specs.List.{AllByRecursion}
use Rattle.memo_answers.specs.Known.{AreTestsOf, TellsIn}
use Rattle.memo_answers.specs.Told.{IsTold}
use Rattle.ent_evaluator.specs.Tests.{IsPlanOf}
use Rattle.ent_evaluator.proofs.TestsKept.{tests_none, tests_now}
use Rattle.ent_evaluator.proofs.tests.PlanTests.begin.Goals as goal

pub returns-in_err-of-clause-tests : goal.returns-in_err-of-clause-tests
returns-in_err-of-clause-tests g c = λ questions bags. tests_none _ questions bags _ c.forget.ensures.plan

pub returns-in-None-clause-tests : goal.returns-in-None-clause-tests
returns-in-None-clause-tests g c = λ questions bags. tests_none _ questions bags _ c.forget.ensures.plan

pub returns-in_err-learnt-in-Some-clause-tests : goal.returns-in_err-learnt-in-Some-clause-tests
returns-in_err-learnt-in-Some-clause-tests g c = λ questions bags. tests_none _ questions bags _ c.forget.ensures.plan

pub returns-in_ok-learnt-in-Some-clause-tests : goal.returns-in_ok-learnt-in-Some-clause-tests
returns-in_ok-learnt-in-Some-clause-tests g c = λ questions bags.
    let looks = g.L.LookUps.looks c.args.held.now in
    let is = subst (λ o. IfSome o (IsPlanOf looks)) c.in-Some.is c.in_ok-of.ensures in
    tests_now looks questions bags c.in-Some.plan _ refl is.0 (record {
      plan = is.1;
      tests = subst (λ es. AreTestsOf looks questions bags es c.in_ok-learnt-in-Some.learnt.list.items) c.as_slice.ensures (c.in_ok-learnt-in-Some.ensures looks questions bags);
      cases = subst (AllByRecursion (IsTold looks questions c.in-Some.plan.entries (TellsIn questions c.in_ok-learnt-in-Some.learnt.list.items))) (sym c.forget.ensures.cases) tt;
    })

pub returns-in_ok-learnt-in-Some-clause-planned : goal.returns-in_ok-learnt-in-Some-clause-planned
returns-in_ok-learnt-in-Some-clause-planned g c = λ so.
    let looks = g.L.LookUps.looks c.args.held.now in
    let is = subst (λ o. IfSome o (IsPlanOf looks)) c.in-Some.is c.in_ok-of.ensures in
    (c.in-Some.plan, (refl, is.0))
