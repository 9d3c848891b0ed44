use Rattle.memo_bags.proofs.RowsStill.{findings_still}
use Rattle.ent_evaluator.proofs.TestsKept.{tests_closed}
use Rattle.ent_evaluator.proofs.memory.Memory.forget_documents.Goals as goal

pub returns : goal.returns
returns c = λ before after questions same has. record {
  findings = findings_still before after same questions c.args.self.now.findings has.findings;
  cases = c.new.ensures after questions c.args.self.now.findings.bags;
  tests = tests_closed before after questions c.args.self.now.findings.bags c.args.self.now.tests c.close.new.self
      c.close.ensures has.tests;
}
