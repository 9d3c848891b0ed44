use Rattle.std.proofs.Common.{◌≡◌, List, ap, subst, sym, ◌∙◌}
use Rattle.std.specs.Prelude.{IfSome}
use Rattle.ent_request.specs.Questions.{BeginsWith}
use Rattle.ent_request.specs.declared.question.Question.{Question}
use Rattle.ent_eval.specs.Names.{request_by}
use Rattle.ent_eval.specs.LooksOf.{looks_of}
use Rattle.ent_evaluator.specs.Tests.{IsSigned}
use Rattle.ent_evaluator.specs.proofs_only.Remembered.{IsEvaluated}
use Rattle.ent_evaluator.proofs.TestsKept.{signed_more}
use Rattle.ent_evaluator.proofs.parts.EvaluatorParts.evaluate_untold.Goals as goal

pub returns-in-None-clause-signed : goal.returns-in-None-clause-signed
returns-in-None-clause-signed g c =
    let looks = looks_of c.args.self.now.pdp in
    let anew = c.evaluate_anew.ensures in
    let new = c.evaluate_anew.new.self in
    let same : c.joined.new.self.questions ≡ c.args.self.now.questions = ap (λ v. v.questions) c.in_ok-joined.ensures.rest in
    let begins : BeginsWith new.questions c.args.self.now.questions = subst (λ (qs : List Question). BeginsWith new.questions qs) same anew.numbers in
    signed_more looks c.args.self.now.questions new.questions (request_by c.args.names) c.joined.new.self.memory.tests new.memory.tests begins anew.tests c.in_ok-joined.ensures.signed

pub keep-requires-clause-evaluated : goal.keep-requires-clause-evaluated
keep-requires-clause-evaluated g c =
    let request = request_by c.args.names in
    subst (λ v. IsEvaluated (looks_of v.pdp) v.questions request c.in-Some.evaluation) (sym c.in_ok-joined.ensures.rest)
    (subst (λ o. IfSome o (IsEvaluated (looks_of c.args.self.now.pdp) c.args.self.now.questions request)) c.in-Some.is c.in_ok-joined.ensures.evaluated)

pub returns-in_ok-keep-in-Some-clause-evaluated : goal.returns-in_ok-keep-in-Some-clause-evaluated
returns-in_ok-keep-in-Some-clause-evaluated g c =
    let looks = looks_of c.args.self.now.pdp in
    let request = request_by c.args.names in
    let same : c.keep.new.self.questions ≡ c.args.self.now.questions =
    ap (λ v. v.questions) c.keep.ensures.rest ∙ ap (λ v. v.questions) c.in_ok-joined.ensures.rest in
    subst (λ (qs : List Question). IsEvaluated looks qs request c.in-Some.evaluation) (sym same)
    (subst (λ o. IfSome o (IsEvaluated looks c.args.self.now.questions request)) c.in-Some.is c.in_ok-joined.ensures.evaluated)

pub returns-in_ok-keep-in-Some-clause-signed : goal.returns-in_ok-keep-in-Some-clause-signed
returns-in_ok-keep-in-Some-clause-signed g c =
    let looks = looks_of c.args.self.now.pdp in
    let request = request_by c.args.names in
    let new = c.keep.new.self in
    let same : new.questions ≡ c.args.self.now.questions =
    ap (λ v. v.questions) c.keep.ensures.rest ∙ ap (λ v. v.questions) c.in_ok-joined.ensures.rest in
    subst (λ (qs : List Question). IsSigned looks qs request new.memory.tests) (sym same)
    (subst (IsSigned looks c.args.self.now.questions request) (sym c.in_ok-keep-in-Some.ensures.tests) c.in_ok-joined.ensures.signed)

pub returns-in_err-keep-in-Some-clause-signed : goal.returns-in_err-keep-in-Some-clause-signed
returns-in_err-keep-in-Some-clause-signed g c =
    let looks = looks_of c.args.self.now.pdp in
    let request = request_by c.args.names in
    let new = c.keep.new.self in
    let same : new.questions ≡ c.args.self.now.questions =
    ap (λ v. v.questions) c.keep.ensures.rest ∙ ap (λ v. v.questions) c.in_ok-joined.ensures.rest in
    subst (λ (qs : List Question). IsSigned looks qs request new.memory.tests) (sym same)
    (subst (IsSigned looks c.args.self.now.questions request) (sym c.in_err-keep-in-Some.ensures.tests) c.in_ok-joined.ensures.signed)
