use Rattle.std.proofs.Common.{◌≡◌, subst}
use Rattle.std.specs.Prelude.{IfOk}
use Rattle.ent_eval.specs.Names.{request_by}
use Rattle.ent_eval.specs.LooksOf.{looks_of}
use Rattle.ent_evaluator.specs.proofs_only.Remembered.{IsEvaluated}
use Rattle.ent_evaluator.proofs.parts.EvaluatorParts.evaluate_afresh.Goals as goal

pub returns-clause-evaluated : goal.returns-clause-evaluated
returns-clause-evaluated g c =
    let looks = looks_of c.args.self.now.pdp in
    let is : c.in_ok-request.request ≡ request_by c.args.names = cc (c.in_ok-request.ensures, c.as_str.ensures, c.as_str-2.ensures, c.as_str-3.ensures) in
    subst (λ q. IfOk c.evaluate_numbered.result (IsEvaluated looks c.evaluate_numbered.new.questions q)) is c.evaluate_numbered.ensures.evaluated
