use Rattle.std.proofs.Common.{◌≡◌, sym, ap, subst}
use Rattle.ent_eval.specs.Names.{request_by}
use Rattle.ent_eval.specs.LooksOf.{looks_of}
use Rattle.ent_request.specs.Looks.{Looks}
use Rattle.ent_evaluator.specs.Memory.{Remembers}
use Rattle.ent_evaluator.specs.declared.memory.Memory.{Memory}
use Rattle.ent_evaluator.specs.proofs_only.Remembered.{IsEvaluated}
use Rattle.ent_evaluator.proofs.Remembering.{remembers_more}
use Rattle.ent_evaluator.proofs.parts.EvaluatorParts.evaluate_anew.Goals as goal

pub returns-in_err-evaluation-clause-knows : goal.returns-in_err-evaluation-clause-knows
returns-in_err-evaluation-clause-knows g c =
    let before : Looks = looks_of c.args.self.now.pdp in
    let new = c.evaluate_afresh.new.self in
    subst (λ (m : Memory). Remembers before new.questions m) (sym c.in_err-evaluation.ensures.memory)
    (remembers_more before c.args.self.now.questions new.questions c.args.self.now.memory c.in_err-evaluation.ensures.numbers c.requires)

pub keep-requires-clause-knows : goal.keep-requires-clause-knows
keep-requires-clause-knows g c =
    let before : Looks = looks_of c.args.self.now.pdp in
    let new = c.evaluate_afresh.new.self in
    let same : looks_of new.pdp ≡ before = ap looks_of c.in_ok-evaluation.ensures.rest in
    subst (λ (m : Memory). Remembers (looks_of new.pdp) new.questions m) (sym c.in_ok-evaluation.ensures.memory)
    (subst (λ (l : Looks). Remembers l new.questions c.args.self.now.memory) (sym same)
    (remembers_more before c.args.self.now.questions new.questions c.args.self.now.memory c.in_ok-evaluation.ensures.numbers c.requires))

pub keep-requires-clause-evaluated : goal.keep-requires-clause-evaluated
keep-requires-clause-evaluated g c =
    let new = c.evaluate_afresh.new.self in
    let same : looks_of new.pdp ≡ looks_of c.args.self.now.pdp = ap looks_of c.in_ok-evaluation.ensures.rest in
    subst (λ (l : Looks). IsEvaluated l new.questions (request_by c.args.names) c.in_ok-evaluation.evaluation) (sym same)
    c.in_ok-evaluation.ensures.evaluated
