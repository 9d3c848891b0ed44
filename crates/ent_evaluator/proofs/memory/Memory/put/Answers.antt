use Rattle.ent_evaluator.proofs.memory.Memory.put.Goals as goal

pub returns : goal.returns
returns c = λ looks questions request has signed is. record {
  findings = has.findings;
  cases = has.cases;
  tests = c.put.ensures looks questions c.args.self.now.findings.bags request has.tests signed is;
}
