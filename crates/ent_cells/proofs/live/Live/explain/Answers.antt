use Rattle.std.proofs.Common.{◌≡◌, ap, subst, sym, ◌∙◌}
use Rattle.std.specs.Prelude.{IfOk}
use Rattle.ent_eval.specs.LooksOf.{looks_of}
use Rattle.ent_eval.specs.declared.pdp.Explained.{Explained}
use Rattle.ent_walk.specs.Answer.{answer, causes_told, recorded}
use Rattle.slab.specs.Slab.{Slab}
use Rattle.ent_cells.specs.Cell.{Cells}
use Rattle.ent_cells.specs.Entries.{Entry, IsLive, kept_of}
use Rattle.ent_cells.proofs.live.Live.explain.Goals as goal

pub invariant_of-self : goal.invariant_of-self
invariant_of-self g c = subst (λ (s : Slab Entry). IsLive s c.self.inside.keys.items) (sym c.explain.ensures.cells) c.self.invariant

pub returns-clause-kept : goal.returns-clause-kept
returns-clause-kept g c =
    ap (λ (s : Slab Entry). kept_of s c.self.inside.keys.items) c.explain.ensures.cells ∙ ap (λ (x : Cells). x.kept) c.self.view_is

pub returns-clause-answer : goal.returns-clause-answer
returns-clause-answer g c =
    subst (λ (v : Cells). IfOk c.explain.result (λ (a : Explained). a.answer ≡ answer (looks_of v.evaluator.pdp) c.args.request.now)) c.self.view_is c.explain.ensures.answer

pub returns-clause-reads : goal.returns-clause-reads
returns-clause-reads g c =
    subst (λ (v : Cells). IfOk c.explain.result (λ (a : Explained). a.reads ≡ recorded (looks_of v.evaluator.pdp) c.args.request.now)) c.self.view_is c.explain.ensures.reads

pub returns-clause-causes : goal.returns-clause-causes
returns-clause-causes g c =
    subst (λ (v : Cells). IfOk c.explain.result (λ (a : Explained). a.causes ≡ causes_told (looks_of v.evaluator.pdp) c.args.request.now)) c.self.view_is c.explain.ensures.causes

pub returns-clause-counted : goal.returns-clause-counted
returns-clause-counted g c = rw (← c.self.view_is) c.explain.ensures.counted

pub returns-clause-rest : goal.returns-clause-rest
returns-clause-rest g c = rw (← c.self.view_is) c.explain.ensures.rest
