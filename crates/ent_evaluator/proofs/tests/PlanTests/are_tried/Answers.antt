use Rattle.std.proofs.Common.{refl}
use Rattle.ent_evaluator.proofs.TestsKept.{tests_alike, tests_none}
use Rattle.ent_evaluator.proofs.tests.PlanTests.are_tried.Goals as goal

pub returns-then-not-is_tried-clause-tests : goal.returns-then-not-is_tried-clause-tests
returns-then-not-is_tried-clause-tests g c = λ questions bags are. tests_alike (g.L.LookUps.looks c.args.held.now) questions bags c.args.self.now _ refl refl refl refl are

pub returns-then-are_ready-clause-tests : goal.returns-then-are_ready-clause-tests
returns-then-are_ready-clause-tests g c = λ questions bags are.
    c.are_ready.ensures.tests questions bags (tests_alike (g.L.LookUps.looks c.args.held.now) questions bags c.args.self.now _ refl refl refl refl are)

pub returns-then-are_ready-clause-planned : goal.returns-then-are_ready-clause-planned
returns-then-are_ready-clause-planned g c = λ questions bags are so.
    c.are_ready.ensures.planned questions bags (tests_alike (g.L.LookUps.looks c.args.held.now) questions bags c.args.self.now _ refl refl refl refl are) c.if-are_ready.true

pub returns-then-is_some-clause-tests : goal.returns-then-is_some-clause-tests
returns-then-is_some-clause-tests g c = λ questions bags are. tests_none _ questions bags _ c.forget.ensures.plan

pub returns-clause-tests : goal.returns-clause-tests
returns-clause-tests g c = λ questions bags are. c.begin.ensures.tests questions bags
