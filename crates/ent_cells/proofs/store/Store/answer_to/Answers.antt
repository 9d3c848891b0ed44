use Rattle.std.proofs.Common.{◌≡◌, subst, ◌∙◌}
use Rattle.std.specs.Prelude.{IfOk}
use Rattle.ent_eval.specs.LooksOf.{looks_of}
use Rattle.ent_request.specs.declared.answer.Answer.{Answer}
use Rattle.ent_walk.specs.Answer.{answer}
use Rattle.ent_cells.specs.Entries.{Stored}
use Rattle.ent_cells.proofs.Grouped.{stays_itself, still_seen, still_store}
use Rattle.ent_cells.proofs.store.Store.answer_to.Goals as goal

pub invariant_of-self : goal.invariant_of-self
invariant_of-self g c =
    let gs = c.self.inside.groups in
    still_store (g.E.Evaluates.evaluator c.self.inside.evaluator).questions (g.E.Evaluates.evaluator c.answer.new.self).questions gs gs c.answer.ensures.numbers (stays_itself gs) c.self.inside.slab c.self.invariant

pub returns-clause-cells : goal.returns-clause-cells
returns-clause-cells g c =
    let gs = c.self.inside.groups in
    still_seen (g.E.Evaluates.evaluator c.self.inside.evaluator).questions (g.E.Evaluates.evaluator c.answer.new.self).questions gs gs c.answer.ensures.numbers (stays_itself gs) c.self.inside.slab c.self.invariant ∙ (λ j. (c.self.view_is j).cells)

pub returns-clause-answer : goal.returns-clause-answer
returns-clause-answer g c =
    subst (λ (v : Stored). IfOk c.answer.result (λ (a : Answer). a ≡ answer (looks_of v.evaluator.pdp) c.args.request.now)) c.self.view_is c.answer.ensures.answer

pub returns-clause-counted : goal.returns-clause-counted
returns-clause-counted g c = rw (← c.self.view_is) c.answer.ensures.counted

pub returns-clause-rest : goal.returns-clause-rest
returns-clause-rest g c = rw (← c.self.view_is) c.answer.ensures.rest
