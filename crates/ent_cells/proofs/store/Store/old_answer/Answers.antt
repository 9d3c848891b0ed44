use Rattle.ent_cells.proofs.Held.{olds_seen}
use Rattle.ent_cells.proofs.store.Store.old_answer.Goals as goal

pub returns : goal.returns
returns g c = rw (← c.self.view_is, ← olds_seen (g.E.Evaluates.evaluator c.self.inside.evaluator).questions c.self.inside.groups c.self.inside.slab c.args.key) c.old_answer_under.ensures
