use Rattle.std.proofs.Common.{◌≡◌, refl, subst}
use Rattle.std.specs.Prelude.{IfSome}
use Rattle.memo_answers.specs.Told.{HasWay}
use Rattle.ent_evaluator.proofs.TestsKept.{evaluated_as, way_tells}
use Rattle.ent_evaluator.proofs.tests.PlanTests.told.Goals as goal

pub returns-in_ok-copy-in-Some-2 : goal.returns-in_ok-copy-in-Some-2
returns-in_ok-copy-in-Some-2 c = λ looks questions bags request are signed.
    let has : HasWay c.args.self.now.cases c.args.self.now.way.items c.in-Some.case.now =
    subst (λ way. HasWay c.args.self.now.cases way c.in-Some.case.now) c.as_slice.ensures.value (subst (λ o. IfSome o (λ x. HasWay c.args.self.now.cases c.as_slice.result.now x.now)) c.in-Some.is c.find.ensures) in
    let tells = way_tells looks questions bags request c.args.self.now are signed c.in-Some.case.now has in
    evaluated_as looks questions request c.in-Some.case.now _ tells.0 tells.1 c.in_ok-copy-in-Some.ensures c.in_ok-copy-in-Some-2.ensures refl
