use Rattle.std.proofs.Common.{◌≡◌, ap, subst, sym, ◌∙◌}
use Rattle.std.proofs.lemmas.Result.{IfOk-weaker}
use Rattle.ent_request.specs.Looks.{Looks}
use Rattle.ent_request.specs.declared.answer.Answer.{Answer}
use Rattle.ent_walk.specs.Answer.{answer}
use Rattle.ent_eval.specs.LooksOf.{looks_of}
use Rattle.ent_evaluator.specs.Memory.{Remembers}
use Rattle.ent_evaluator.proofs.parts.EvaluatorParts.answer_anew.Goals as goal

pub returns-in_err-answer-clause-knows : goal.returns-in_err-answer-clause-knows
returns-in_err-answer-clause-knows g c =
    let same : looks_of c.answer.new.self ≡ looks_of c.args.self.now.pdp = ap looks_of c.answer.ensures.rest in
    subst (λ (l : Looks). Remembers l c.args.self.now.questions c.args.self.now.memory) (sym same) c.requires

pub returns-clause-knows : goal.returns-clause-knows
returns-clause-knows g c =
    let same : looks_of c.answer.new.self ≡ looks_of c.args.self.now.pdp = ap looks_of c.answer.ensures.rest in
    subst (λ (l : Looks). Remembers l c.args.self.now.questions c.args.self.now.memory) (sym same) c.requires

pub returns-clause-answer : goal.returns-clause-answer
returns-clause-answer g c =
    IfOk-weaker c.new.result (λ (a : Answer). a ≡ c.in_ok-answer.answer) (λ (a : Answer). a ≡ answer (looks_of c.args.self.now.pdp) c.args.request.now)
    (λ a e. e ∙ c.in_ok-answer.ensures.answer) c.new.ensures
