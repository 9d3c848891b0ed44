use Rattle.std.proofs.Common.{◌≡◌, [], subst}
use Rattle.std.specs.Prelude.{IfOk}
use Rattle.ent_request.specs.Questions.{asked_once, at_numbers, keys_at}
use Rattle.ent_walk.specs.Answer.{answer, asked, has_cause, recorded}
use Rattle.ent_eval.specs.Evaluator.{Evaluator}
use Rattle.ent_eval.specs.LooksOf.{looks_of}
use Rattle.ent_eval.specs.Names.{request_of}
use Rattle.ent_eval.specs.declared.pdp.ListedEvaluation.{ListedEvaluation}
use Rattle.ent_eval.specs.declared.who.Who.{Who}
use Rattle.ent_evaluator.proofs.evaluator.EvaluatorEvaluates.evaluate.Goals as goal

pub returns-clause-answer : goal.returns-clause-answer
returns-clause-answer g c =
    let r = c.evaluate_listed.result in
    subst (λ (v : Evaluator). IfOk r (λ (e : ListedEvaluation). e.answer ≡ answer (looks_of v.pdp) (request_of c.args.who.now))) c.self.view_is
    (subst (λ (w : Who). IfOk r (λ (e : ListedEvaluation). e.answer ≡ answer (looks_of c.self.inside.parts.pdp) (request_of w))) c.names.ensures
    c.evaluate_listed.ensures.answer)

pub returns-clause-asked : goal.returns-clause-asked
returns-clause-asked g c =
    let r = c.evaluate_listed.result in
    let questions = c.evaluate_listed.new.self.questions in
    subst (λ (v : Evaluator). IfOk r (λ (e : ListedEvaluation). at_numbers questions e.asked ≡ asked_once [] (asked (looks_of v.pdp) (request_of c.args.who.now)))) c.self.view_is
    (subst (λ (w : Who). IfOk r (λ (e : ListedEvaluation). at_numbers questions e.asked ≡ asked_once [] (asked (looks_of c.self.inside.parts.pdp) (request_of w)))) c.names.ensures
    c.evaluate_listed.ensures.asked)

pub returns-clause-reads : goal.returns-clause-reads
returns-clause-reads g c =
    let r = c.evaluate_listed.result in
    let questions = c.evaluate_listed.new.self.questions in
    subst (λ (v : Evaluator). IfOk r (λ (e : ListedEvaluation). keys_at (request_of c.args.who.now) (at_numbers questions e.asked) ≡ recorded (looks_of v.pdp) (request_of c.args.who.now))) c.self.view_is
    (subst (λ (w : Who). IfOk r (λ (e : ListedEvaluation). keys_at (request_of w) (at_numbers questions e.asked) ≡ recorded (looks_of c.self.inside.parts.pdp) (request_of w))) c.names.ensures
    c.evaluate_listed.ensures.reads)

pub returns-clause-failed : goal.returns-clause-failed
returns-clause-failed g c =
    let r = c.evaluate_listed.result in
    subst (λ (v : Evaluator). IfOk r (λ (e : ListedEvaluation). e.failed ≡ has_cause (looks_of v.pdp) (request_of c.args.who.now))) c.self.view_is
    (subst (λ (w : Who). IfOk r (λ (e : ListedEvaluation). e.failed ≡ has_cause (looks_of c.self.inside.parts.pdp) (request_of w))) c.names.ensures
    c.evaluate_listed.ensures.failed)

pub returns-clause-numbers : goal.returns-clause-numbers
returns-clause-numbers g c = rw (← c.self.view_is) c.evaluate_listed.ensures.numbers

pub returns-clause-counted : goal.returns-clause-counted
returns-clause-counted g c = rw (← c.self.view_is) c.evaluate_listed.ensures.counted

pub returns-clause-rest : goal.returns-clause-rest
returns-clause-rest g c = rw (← c.self.view_is) c.evaluate_listed.ensures.rest
