use Rattle.std.proofs.Common.{◌≡◌, ap, subst, sym, ◌∙◌}
use Rattle.std.specs.Prelude.{IfOk}
use Rattle.ent_eval.specs.LooksOf.{looks_of}
use Rattle.ent_request.specs.declared.answer.Answer.{Answer}
use Rattle.ent_walk.specs.Answer.{answer}
use Rattle.slab.specs.Slab.{Slab}
use Rattle.ent_cells.specs.Cell.{Cells}
use Rattle.ent_cells.specs.Entries.{Entry, IsLive, kept_of}
use Rattle.ent_cells.proofs.live.Live.answer_to.Goals as goal

pub invariant_of-self : goal.invariant_of-self
invariant_of-self g c = subst (λ (s : Slab Entry). IsLive s c.self.inside.keys.items) (sym c.answer_to.ensures.cells) c.self.invariant

pub returns-clause-kept : goal.returns-clause-kept
returns-clause-kept g c =
    ap (λ (s : Slab Entry). kept_of s c.self.inside.keys.items) c.answer_to.ensures.cells ∙ ap (λ (x : Cells). x.kept) c.self.view_is

pub returns-clause-answer : goal.returns-clause-answer
returns-clause-answer g c =
    subst (λ (v : Cells). IfOk c.answer_to.result (λ (a : Answer). a ≡ answer (looks_of v.evaluator.pdp) c.args.request.now)) c.self.view_is c.answer_to.ensures.answer

pub returns-clause-counted : goal.returns-clause-counted
returns-clause-counted g c = rw (← c.self.view_is) c.answer_to.ensures.counted

pub returns-clause-rest : goal.returns-clause-rest
returns-clause-rest g c = rw (← c.self.view_is) c.answer_to.ensures.rest
