use Rattle.std.proofs.Common.{◌≡◌, List, ap, sym, subst}
use Rattle.std.specs.Prelude.{IfNone, IfSome}
use Rattle.ent_request.specs.declared.question.Question.{Question}
use Rattle.ent_eval.specs.Names.{request_by}
use Rattle.ent_eval.specs.LooksOf.{looks_of}
use Rattle.ent_evaluator.specs.Memory.{Gives, HasCase, Remembers, cases_in}
use Rattle.ent_evaluator.specs.proofs_only.Remembered.{IsEvaluated, NoneFits}
use Rattle.ent_evaluator.proofs.Fitting.{case_answer, case_asked, case_failed, case_within, none_known}
use Rattle.ent_evaluator.proofs.parts.EvaluatorParts.evaluate_remembered.Goals as goal

pub returns-in-Some-clause-evaluated : goal.returns-in-Some-clause-evaluated
returns-in-Some-clause-evaluated g c =
    let looks = looks_of c.args.self.now.pdp in
    let questions = c.args.self.now.questions in
    let memory = c.recalled.new.self.memory in
    let names = c.args.names in
    let e = c.in-Some.evaluation in
    let same : c.recalled.new.self.questions ≡ questions = ap (λ v. v.questions) c.in_ok-evaluation.ensures.rest in
    let known : Remembers looks questions memory = subst (λ (qs : List Question). Remembers looks qs memory) same c.in_ok-evaluation.ensures.knows in
    let found = subst (λ o. IfSome o (λ x. HasCase looks questions memory (request_by names) (Gives x))) c.in-Some.is c.in_ok-evaluation.ensures.some in
    subst (λ (qs : List Question). IsEvaluated looks qs (request_by names) e) (sym same)
    (record {
      answer = case_answer looks questions memory names.person.now names.action.now names.resource.now e known found;
      asked = case_asked looks questions memory names.person.now names.action.now names.resource.now e known found;
      within = case_within looks questions memory names.person.now names.action.now names.resource.now e known found;
      failed = case_failed looks questions memory names.person.now names.action.now names.resource.now e known found;
    })

pub returns-in-None-clause-again : goal.returns-in-None-clause-again
returns-in-None-clause-again g c =
    let looks = looks_of c.args.self.now.pdp in
    let request = request_by c.args.names in
    let none = subst (λ o. IfNone o (NoneFits looks c.args.self.now.questions c.args.self.now.memory.findings.bags request (cases_in c.args.self.now.memory.cases))) c.in-None.is c.in_ok-evaluation.ensures.none in
    λ known. absurd (none_known looks c.args.self.now.questions c.args.self.now.memory request none known)
