use Rattle.std.proofs.Common.{None, Some, ap, sym, ◌∙◌}
use Rattle.ent_cells.proofs.Grouped.{begins_itself, others_stay, stays_itself}
use Rattle.ent_cells.proofs.Held.{gone_answer_seen}
use Rattle.ent_cells.proofs.StoreSteps.{gone_seen, gone_store}
use Rattle.ent_cells.proofs.store.Store.remove.Goals as goal

pub invariant_of-self : goal.invariant_of-self
invariant_of-self g c =
    let q = (g.E.Evaluates.evaluator c.self.inside.evaluator).questions in
    let gs = c.self.inside.groups in
    gone_store q q gs gs c.self.inside.slab c.try_remove.new.self c.args.key (begins_itself q) (others_stay c.args.key gs gs (stays_itself gs)) c.try_remove.ensures.updates.others c.self.invariant c.try_remove.ensures.updates.changed

pub returns-in_default-clause-cells : goal.returns-in_default-clause-cells
returns-in_default-clause-cells g c =
    let q = (g.E.Evaluates.evaluator c.self.inside.evaluator).questions in
    let gs = c.self.inside.groups in
    rw (← c.self.view_is)
    (gone_seen q q gs gs c.self.inside.slab c.try_remove.new.self c.args.key (begins_itself q) (others_stay c.args.key gs gs (stays_itself gs)) c.try_remove.ensures.updates.others c.self.invariant c.try_remove.ensures.updates.changed)

pub returns-in_default-clause-gone : goal.returns-in_default-clause-gone
returns-in_default-clause-gone g c =
    rw (← c.self.view_is)
    (gone_answer_seen (g.E.Evaluates.evaluator c.self.inside.evaluator).questions c.self.inside.groups c.self.inside.slab c.args.key None (sym c.in_default.ensures.value))

pub invariant_of-self-2 : goal.invariant_of-self-2
invariant_of-self-2 g c =
    let q = (g.E.Evaluates.evaluator c.self.inside.evaluator).questions in
    gone_store q q c.self.inside.groups c.leave.new.groups c.self.inside.slab c.try_remove.new.self c.args.key (begins_itself q) c.leave.ensures c.in-Some.ensures.updates.others c.self.invariant c.in-Some.ensures.updates.changed

pub returns-clause-cells : goal.returns-clause-cells
returns-clause-cells g c =
    let q = (g.E.Evaluates.evaluator c.self.inside.evaluator).questions in
    rw (← c.self.view_is)
    (gone_seen q q c.self.inside.groups c.leave.new.groups c.self.inside.slab c.try_remove.new.self c.args.key (begins_itself q) c.leave.ensures c.in-Some.ensures.updates.others c.self.invariant c.in-Some.ensures.updates.changed)

pub returns-clause-gone : goal.returns-clause-gone
returns-clause-gone g c =
    rw (← c.self.view_is)
    (ap Some c.gone_answer.ensures ∙ gone_answer_seen (g.E.Evaluates.evaluator c.self.inside.evaluator).questions c.self.inside.groups c.self.inside.slab c.args.key (Some c.in-Some.cell) (sym c.in-Some.ensures.value))

pub returns-in_default-clause-evaluator : goal.returns-in_default-clause-evaluator
returns-in_default-clause-evaluator g c = λ j. (c.self.view_is j).evaluator

pub returns-clause-evaluator : goal.returns-clause-evaluator
returns-clause-evaluator g c = λ j. (c.self.view_is j).evaluator
