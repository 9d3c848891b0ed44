use Rattle.ent_evaluator.proofs.memory.Memory.are_tests_tried.Goals as goal

pub returns-clause-remembers : goal.returns-clause-remembers
returns-clause-remembers g c = λ questions has. record {
  findings = has.findings;
  cases = has.cases;
  tests = c.are_tried.ensures.tests questions c.args.self.now.findings.bags has.tests;
}

pub returns-clause-planned : goal.returns-clause-planned
returns-clause-planned g c = λ questions has. c.are_tried.ensures.planned questions c.args.self.now.findings.bags has.tests
