use Rattle.std.proofs.Common.{◌≡◌, List, ap, sym, subst}
use Rattle.std.specs.Prelude.{IfSome}
use Rattle.ent_request.specs.declared.question.Question.{Question}
use Rattle.ent_eval.specs.Names.{request_by}
use Rattle.ent_eval.specs.LooksOf.{looks_of}
use Rattle.ent_evaluator.specs.proofs_only.Remembered.{IsEvaluated}
use Rattle.ent_evaluator.proofs.parts.EvaluatorParts.evaluate_signed.Goals as goal

pub returns-in_err-evaluation-clause-knows : goal.returns-in_err-evaluation-clause-knows
returns-in_err-evaluation-clause-knows g c = c.in_err-evaluation.ensures.remembers (looks_of c.args.self.now.pdp) c.args.self.now.questions c.requires.knows

pub keep-requires-clause-knows : goal.keep-requires-clause-knows
keep-requires-clause-knows g c = c.in_ok-evaluation.ensures.remembers (looks_of c.args.self.now.pdp) c.args.self.now.questions c.requires.knows

pub keep-requires-clause-evaluated : goal.keep-requires-clause-evaluated
keep-requires-clause-evaluated g c =
    let looks = looks_of c.args.self.now.pdp in
    let request = request_by c.args.names in
    subst (λ o. IfSome o (IsEvaluated looks c.args.self.now.questions request)) c.in-Some.is (c.in_ok-evaluation.ensures.told looks c.args.self.now.questions request c.requires.knows c.requires.signed)

pub returns-in_ok-keep-in-Some-clause-evaluated : goal.returns-in_ok-keep-in-Some-clause-evaluated
returns-in_ok-keep-in-Some-clause-evaluated g c =
    let looks = looks_of c.args.self.now.pdp in
    let request = request_by c.args.names in
    let same : c.keep.new.self.questions ≡ c.args.self.now.questions = ap (λ v. v.questions) c.keep.ensures.rest in
    subst (λ (qs : List Question). IsEvaluated looks qs request c.in-Some.evaluation) (sym same)
    (subst (λ o. IfSome o (IsEvaluated looks c.args.self.now.questions request)) c.in-Some.is (c.in_ok-evaluation.ensures.told looks c.args.self.now.questions request c.requires.knows c.requires.signed))

pub evaluate_untold-requires-clause-knows : goal.evaluate_untold-requires-clause-knows
evaluate_untold-requires-clause-knows g c = c.in_ok-evaluation.ensures.remembers (looks_of c.args.self.now.pdp) c.args.self.now.questions c.requires.knows

pub evaluate_untold-requires-clause-signed : goal.evaluate_untold-requires-clause-signed
evaluate_untold-requires-clause-signed g c =
    c.in_ok-evaluation.ensures.signed (looks_of c.args.self.now.pdp) c.args.self.now.questions (request_by c.args.names) c.requires.signed

pub returns-in_ok-put-in-None-clause-knows : goal.returns-in_ok-put-in-None-clause-knows
returns-in_ok-put-in-None-clause-knows g c =
    let untold = c.in_ok-evaluation-in-None.ensures in
    c.put.ensures (looks_of c.args.self.now.pdp) c.evaluate_untold.new.self.questions (request_by c.args.names) untold.knows untold.signed untold.evaluated

pub returns-in_err-put-in-None-clause-knows : goal.returns-in_err-put-in-None-clause-knows
returns-in_err-put-in-None-clause-knows g c =
    let untold = c.in_ok-evaluation-in-None.ensures in
    c.put.ensures (looks_of c.args.self.now.pdp) c.evaluate_untold.new.self.questions (request_by c.args.names) untold.knows untold.signed untold.evaluated
