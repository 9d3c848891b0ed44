use Rattle.std.proofs.Common.{◌≡◌, subst, ◌∙◌}
use Rattle.std.specs.Prelude.{IfOk}
use Rattle.ent_eval.specs.LooksOf.{looks_of}
use Rattle.ent_eval.specs.declared.pdp.Explained.{Explained}
use Rattle.ent_walk.specs.Answer.{answer, causes_told, recorded}
use Rattle.ent_cells.specs.Entries.{Stored}
use Rattle.ent_cells.proofs.Grouped.{same_begins, stays_itself, still_seen, still_store}
use Rattle.ent_cells.proofs.store.Store.explain.Goals as goal

pub invariant_of-self : goal.invariant_of-self
invariant_of-self g c =
    let gs = c.self.inside.groups in
    still_store (g.E.Evaluates.evaluator c.self.inside.evaluator).questions (g.E.Evaluates.evaluator c.explain.new.self).questions gs gs (same_begins (g.E.Evaluates.evaluator c.self.inside.evaluator).questions (g.E.Evaluates.evaluator c.explain.new.self).questions c.explain.ensures.numbers) (stays_itself gs) c.self.inside.slab c.self.invariant

pub returns-clause-cells : goal.returns-clause-cells
returns-clause-cells g c =
    let gs = c.self.inside.groups in
    still_seen (g.E.Evaluates.evaluator c.self.inside.evaluator).questions (g.E.Evaluates.evaluator c.explain.new.self).questions gs gs (same_begins (g.E.Evaluates.evaluator c.self.inside.evaluator).questions (g.E.Evaluates.evaluator c.explain.new.self).questions c.explain.ensures.numbers) (stays_itself gs) c.self.inside.slab c.self.invariant ∙ (λ j. (c.self.view_is j).cells)

pub returns-clause-answer : goal.returns-clause-answer
returns-clause-answer g c =
    subst (λ (v : Stored). IfOk c.explain.result (λ (a : Explained). a.answer ≡ answer (looks_of v.evaluator.pdp) c.args.request.now)) c.self.view_is c.explain.ensures.answer

pub returns-clause-reads : goal.returns-clause-reads
returns-clause-reads g c =
    subst (λ (v : Stored). IfOk c.explain.result (λ (a : Explained). a.reads ≡ recorded (looks_of v.evaluator.pdp) c.args.request.now)) c.self.view_is c.explain.ensures.reads

pub returns-clause-causes : goal.returns-clause-causes
returns-clause-causes g c =
    subst (λ (v : Stored). IfOk c.explain.result (λ (a : Explained). a.causes ≡ causes_told (looks_of v.evaluator.pdp) c.args.request.now)) c.self.view_is c.explain.ensures.causes

pub returns-clause-counted : goal.returns-clause-counted
returns-clause-counted g c = rw (← c.self.view_is) c.explain.ensures.counted

pub returns-clause-rest : goal.returns-clause-rest
returns-clause-rest g c = rw (← c.self.view_is) c.explain.ensures.rest
