use Rattle.std.proofs.Common.{subst, sym}
use Rattle.ent_evaluator.specs.Memory.{AreShelves}
use Rattle.ent_evaluator.specs.Tests.{AreTests}
use Rattle.ent_evaluator.proofs.Remembering.{shelves_still}
use Rattle.ent_evaluator.proofs.TestsKept.{tests_still}
use Rattle.ent_evaluator.proofs.memory.Memory.forget_name.Goals as goal

pub returns-then-is_much : goal.returns-then-is_much
returns-then-is_much c = λ before after questions differ has. c.forget.ensures after questions

pub returns-else-is_much : goal.returns-else-is_much
returns-else-is_much c = λ before after questions differ has. record {
  findings = c.forget_name.ensures.kept before after questions differ.values has.findings;
  cases = subst (λ bags. AreShelves after questions bags c.args.self.now.cases) (sym c.forget_name.ensures.bags)
      (shelves_still before after differ.documents questions c.args.self.now.findings.bags c.args.self.now.cases has.cases);
  tests = subst (λ bags. AreTests after questions bags c.args.self.now.tests) (sym c.forget_name.ensures.bags)
      (tests_still before after differ.documents questions c.args.self.now.findings.bags c.args.self.now.tests has.tests);
}
