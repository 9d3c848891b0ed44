use Rattle.ent_evaluator.proofs.Remembering.{shelves_more}
use Rattle.ent_evaluator.proofs.memory.Memory.sign.Goals as goal

pub sign-requires-clause-tests : goal.sign-requires-clause-tests
sign-requires-clause-tests g c = c.requires.remembers.tests

pub returns-clause-remembers : goal.returns-clause-remembers
returns-clause-remembers g c = record {
  findings = c.sign.ensures.named.findings;
  cases = shelves_more (g.L.LookUps.looks c.args.held.now) c.args.questions.now c.sign.new.questions c.args.self.now.findings.bags c.sign.new.findings.bags
      c.sign.ensures.questions c.sign.ensures.bags c.args.self.now.cases c.requires.remembers.cases;
  tests = c.sign.ensures.tests;
}
