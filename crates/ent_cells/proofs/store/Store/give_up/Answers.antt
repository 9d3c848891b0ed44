use Rattle.std.proofs.Common.{refl}
use Rattle.slab.specs.Slab.{get}
use Rattle.ent_cells.proofs.StoreSteps.{given_up_seen, given_up_store}
use Rattle.ent_cells.proofs.store.Store.give_up.Goals as goal

pub invariant_of-self : goal.invariant_of-self
invariant_of-self g c =
    given_up_store (g.E.Evaluates.evaluator c.self.inside.evaluator).questions c.self.inside.groups c.drop_next.new.groups c.self.inside.slab c.drop_next.new.cells c.args.key c.self.invariant c.drop_next.ensures.groups (get c.self.inside.slab c.args.key) refl c.drop_next.ensures.cells

pub returns-clause-cells : goal.returns-clause-cells
returns-clause-cells g c =
    rw (← c.self.view_is)
    (given_up_seen (g.E.Evaluates.evaluator c.self.inside.evaluator).questions c.self.inside.groups c.drop_next.new.groups c.self.inside.slab c.drop_next.new.cells c.args.key c.self.invariant c.drop_next.ensures.groups (get c.self.inside.slab c.args.key) refl c.drop_next.ensures.cells)

pub returns-clause-evaluator : goal.returns-clause-evaluator
returns-clause-evaluator g c = λ j. (c.self.view_is j).evaluator
