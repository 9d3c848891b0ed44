use Rattle.std.proofs.Common.{◌≡◌, subst}
use Rattle.std.specs.Prelude.{IfOk}
use Rattle.ent_walk.specs.Answer.{answer, causes_told, recorded}
use Rattle.ent_eval.specs.Evaluator.{Evaluator}
use Rattle.ent_eval.specs.LooksOf.{looks_of}
use Rattle.ent_eval.specs.declared.pdp.Explained.{Explained}
use Rattle.ent_evaluator.proofs.evaluator.EvaluatorEvaluates.explain.Goals as goal

pub returns-clause-answer : goal.returns-clause-answer
returns-clause-answer g c =
    subst (λ (v : Evaluator). IfOk c.explain.result (λ (e : Explained). e.answer ≡ answer (looks_of v.pdp) c.args.request.now)) c.self.view_is
    c.explain.ensures.answer

pub returns-clause-reads : goal.returns-clause-reads
returns-clause-reads g c =
    subst (λ (v : Evaluator). IfOk c.explain.result (λ (e : Explained). e.reads ≡ recorded (looks_of v.pdp) c.args.request.now)) c.self.view_is
    c.explain.ensures.reads

pub returns-clause-causes : goal.returns-clause-causes
returns-clause-causes g c =
    subst (λ (v : Evaluator). IfOk c.explain.result (λ (e : Explained). e.causes ≡ causes_told (looks_of v.pdp) c.args.request.now)) c.self.view_is
    c.explain.ensures.causes

pub returns-clause-counted : goal.returns-clause-counted
returns-clause-counted g c = rw (← c.self.view_is) c.explain.ensures.counted

pub returns-clause-rest : goal.returns-clause-rest
returns-clause-rest g c = rw (← c.self.view_is) c.explain.ensures.rest

pub returns-clause-numbers : goal.returns-clause-numbers
returns-clause-numbers g c = rw (← c.self.view_is) c.explain.ensures.questions
