use Rattle.std.proofs.Common.{◌∙◌}
use Rattle.ent_cells.proofs.Grouped.{same_begins, stays_itself, still_seen, still_store}
use Rattle.ent_cells.proofs.store.Store.exchange.Goals as goal

pub invariant_of-self : goal.invariant_of-self
invariant_of-self g c =
    let gs = c.self.inside.groups in
    still_store (g.E.Evaluates.evaluator c.self.inside.evaluator).questions (g.E.Evaluates.evaluator c.exchange.new.self).questions gs gs (same_begins (g.E.Evaluates.evaluator c.self.inside.evaluator).questions (g.E.Evaluates.evaluator c.exchange.new.self).questions c.exchange.ensures.numbers) (stays_itself gs) c.self.inside.slab c.self.invariant

pub returns-clause-cells : goal.returns-clause-cells
returns-clause-cells g c =
    let gs = c.self.inside.groups in
    still_seen (g.E.Evaluates.evaluator c.self.inside.evaluator).questions (g.E.Evaluates.evaluator c.exchange.new.self).questions gs gs (same_begins (g.E.Evaluates.evaluator c.self.inside.evaluator).questions (g.E.Evaluates.evaluator c.exchange.new.self).questions c.exchange.ensures.numbers) (stays_itself gs) c.self.inside.slab c.self.invariant ∙ (λ j. (c.self.view_is j).cells)

pub returns-clause-made : goal.returns-clause-made
returns-clause-made g c = rw (← c.self.view_is) c.exchange.ensures.made

pub returns-clause-taken : goal.returns-clause-taken
returns-clause-taken g c = rw (← c.self.view_is) c.exchange.ensures.taken

pub returns-clause-absent : goal.returns-clause-absent
returns-clause-absent g c = rw (← c.self.view_is) c.exchange.ensures.absent

pub returns-clause-kept : goal.returns-clause-kept
returns-clause-kept g c = rw (← c.self.view_is) c.exchange.ensures.kept

pub returns-clause-counted : goal.returns-clause-counted
returns-clause-counted g c = rw (← c.self.view_is) c.exchange.ensures.counted

pub exchange-requires : goal.exchange-requires
exchange-requires g c = rw (← c.self.view_is) at c.requires
