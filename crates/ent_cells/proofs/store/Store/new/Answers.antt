use Rattle.ent_cells.proofs.StoreSteps.{new_seen, new_store}
use Rattle.ent_cells.proofs.store.Store.new.Goals as goal

pub invariant_of-result : goal.invariant_of-result
invariant_of-result g c = new_store (g.E.Evaluates.evaluator c.args.evaluator).questions c.new-2.result c.new.result c.new.ensures.empty

pub returns-clause-cells : goal.returns-clause-cells
returns-clause-cells g c = new_seen (g.E.Evaluates.evaluator c.args.evaluator).questions c.new-2.result c.new.result c.new.ensures.empty
