use Rattle.std.proofs.Common.{◌≡◌, subst}
use Rattle.std.specs.Prelude.{IfOk}
use Rattle.ent_request.specs.declared.answer.Answer.{Answer}
use Rattle.ent_walk.specs.Answer.{answer}
use Rattle.ent_eval.specs.Evaluator.{Evaluator}
use Rattle.ent_eval.specs.LooksOf.{looks_of}
use Rattle.ent_evaluator.proofs.evaluator.EvaluatorEvaluates.answer.Goals as goal

pub returns-clause-answer : goal.returns-clause-answer
returns-clause-answer g c =
    subst (λ (v : Evaluator). IfOk c.answer.result (λ (a : Answer). a ≡ answer (looks_of v.pdp) c.args.request.now)) c.self.view_is
    c.answer.ensures.answer

pub returns-clause-numbers : goal.returns-clause-numbers
returns-clause-numbers g c = rw (← c.self.view_is) c.answer.ensures.numbers

pub returns-clause-counted : goal.returns-clause-counted
returns-clause-counted g c = rw (← c.self.view_is) c.answer.ensures.counted

pub returns-clause-rest : goal.returns-clause-rest
returns-clause-rest g c = rw (← c.self.view_is) c.answer.ensures.rest
