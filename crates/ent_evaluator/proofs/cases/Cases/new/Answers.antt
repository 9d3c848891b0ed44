use Rattle.ent_evaluator.proofs.Shelved.{shelf_none}
use Rattle.ent_evaluator.proofs.cases.Cases.new.Goals as goal

pub returns : goal.returns
returns c = λ looks questions bags. record {
  older = shelf_none looks questions bags c.new.result c.new.ensures.cases c.new.ensures.tree;
  latest = shelf_none looks questions bags c.new-2.result c.new-2.ensures.cases c.new-2.ensures.tree;
}
