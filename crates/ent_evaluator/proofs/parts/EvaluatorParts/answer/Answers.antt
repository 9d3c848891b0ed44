use Rattle.std.proofs.Common.{◌≡◌, sym, ◌∙◌}
use Rattle.std.proofs.lemmas.Result.{IfOk-weaker}
use Rattle.ent_request.specs.Looks.{Looks}
use Rattle.ent_request.specs.declared.answer.Answer.{Answer}
use Rattle.ent_walk.specs.Answer.{answer}
use Rattle.ent_eval.specs.LooksOf.{looks_of}
use Rattle.ent_eval.specs.Names.{named_by, request_by}
use Rattle.ent_evaluator.proofs.Alike.{listed_alike}
use Rattle.ent_evaluator.proofs.parts.EvaluatorParts.answer.Goals as goal

pub returns-in-Some-clause-answer : goal.returns-in-Some-clause-answer
returns-in-Some-clause-answer g c =
    let looks : Looks = looks_of c.args.self.now.pdp in
    IfOk-weaker c.answer_to.result (λ (a : Answer). a ≡ answer looks (request_by c.in-Some.names)) (λ (a : Answer). a ≡ answer looks c.args.request.now)
    (λ a e. e ∙ listed_alike looks c.args.request.now (named_by c.in-Some.names) (sym c.in-Some.ensures)) c.answer_to.ensures.answer
