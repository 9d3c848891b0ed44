use Rattle.ent_evaluator.proofs.TestsKept.{tests_none}
use Rattle.ent_evaluator.proofs.memory.Memory.new.Goals as goal

pub returns : goal.returns
returns c = λ looks questions. record {
  findings = c.new.ensures looks questions;
  cases = c.new-2.ensures looks questions c.new.result.bags;
  tests = tests_none looks questions c.new.result.bags c.new-4.result c.new-4.ensures;
}
