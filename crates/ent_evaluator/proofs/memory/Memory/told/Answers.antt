use Rattle.std.proofs.Common.{ap, subst, sym}
use Rattle.std.specs.Prelude.{IfSome}
use Rattle.ent_evaluator.specs.Tests.{IsSigned}
use Rattle.ent_evaluator.specs.declared.tests.PlanTests.{PlanTests}
use Rattle.ent_evaluator.specs.proofs_only.Remembered.{IsEvaluated}
use Rattle.ent_evaluator.proofs.TestsKept.{tests_alike}
use Rattle.ent_evaluator.proofs.memory.Memory.told.Goals as goal

pub returns-in-Some-clause-told : goal.returns-in-Some-clause-told
returns-in-Some-clause-told c = λ looks questions request has signed.
    subst (λ o. IfSome o (IsEvaluated looks questions request)) c.in-Some.is (c.in_ok-told.ensures looks questions c.args.self.now.findings.bags request has.tests signed)

pub returns-in-Some-clause-remembers : goal.returns-in-Some-clause-remembers
returns-in-Some-clause-remembers c = λ looks questions has. record {
  findings = has.findings;
  cases = has.cases;
  tests = tests_alike looks questions c.args.self.now.findings.bags c.args.self.now.tests c.count_hit.new.self (ap (λ (t : PlanTests). t.plan) c.count_hit.ensures)
      (ap (λ (t : PlanTests). t.is_compared) c.count_hit.ensures) (ap (λ (t : PlanTests). t.learnt) c.count_hit.ensures) (ap (λ (t : PlanTests). t.cases) c.count_hit.ensures) has.tests;
}

pub returns-in-Some-clause-signed : goal.returns-in-Some-clause-signed
returns-in-Some-clause-signed c = λ looks questions request signed. subst (IsSigned looks questions request) (sym c.count_hit.ensures) signed
