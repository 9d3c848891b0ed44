use Rattle.std.proofs.Common.{◌≡◌, [], ap, sym, subst}
use Rattle.std.specs.Prelude.{IfOk}
use Rattle.ent_walk.specs.Answer.{answer, asked, has_cause}
use Rattle.ent_eval.specs.Names.{request_by}
use Rattle.ent_request.specs.Looks.{Looks}
use Rattle.ent_eval.specs.LooksOf.{looks_of}
use Rattle.ent_eval.specs.Point.{Point}
use Rattle.ent_evaluator.specs.Memory.{IsKnown, Remembers}
use Rattle.ent_request.specs.Questions.{AreNumbers, asked_once, at_numbers}
use Rattle.ent_eval.specs.declared.pdp.ListedEvaluation.{ListedEvaluation}
use Rattle.ent_evaluator.specs.proofs_only.Remembered.{IsEvaluated}
use Rattle.ent_evaluator.proofs.Fitting.{reads_by}
use Rattle.memo_bags.proofs.Growing.{if_ok}
use Rattle.ent_evaluator.proofs.parts.EvaluatorParts.evaluate_listed.Goals as goal

pub evaluate_remembered-requires : goal.evaluate_remembered-requires
evaluate_remembered-requires g c =
    let same : looks_of c.count.new.self ≡ looks_of c.args.self.now.pdp = ap looks_of c.count.ensures in
    subst (λ (l : Looks). Remembers l c.args.self.now.questions c.args.self.now.memory) (sym same) c.requires.knows

pub returns-clause-answer : goal.returns-clause-answer
returns-clause-answer g c =
    let looks = looks_of c.args.self.now.pdp in
    let request = request_by c.args.names in
    let questions = c.evaluate_remembered.new.self.questions in
    let same : looks_of c.count.new.self ≡ looks = ap looks_of c.count.ensures in
    if_ok c.evaluate_remembered.result (IsEvaluated looks questions request) (λ (e : ListedEvaluation). e.answer ≡ answer looks request) (λ e is. is.answer)
    (subst (λ (l : Looks). IfOk c.evaluate_remembered.result (IsEvaluated l questions request)) same c.evaluate_remembered.ensures.evaluated)

pub returns-clause-asked : goal.returns-clause-asked
returns-clause-asked g c =
    let looks = looks_of c.args.self.now.pdp in
    let request = request_by c.args.names in
    let questions = c.evaluate_remembered.new.self.questions in
    let same : looks_of c.count.new.self ≡ looks = ap looks_of c.count.ensures in
    if_ok c.evaluate_remembered.result (IsEvaluated looks questions request) (λ (e : ListedEvaluation). at_numbers questions e.asked ≡ asked_once [] (asked looks request)) (λ e is. is.asked)
    (subst (λ (l : Looks). IfOk c.evaluate_remembered.result (IsEvaluated l questions request)) same c.evaluate_remembered.ensures.evaluated)

pub returns-clause-within : goal.returns-clause-within
returns-clause-within g c =
    let request = request_by c.args.names in
    let questions = c.evaluate_remembered.new.self.questions in
    if_ok c.evaluate_remembered.result (IsEvaluated (looks_of c.count.new.self) questions request) (λ (e : ListedEvaluation). AreNumbers questions e.asked) (λ e is. is.within)
    c.evaluate_remembered.ensures.evaluated

pub returns-clause-failed : goal.returns-clause-failed
returns-clause-failed g c =
    let looks = looks_of c.args.self.now.pdp in
    let request = request_by c.args.names in
    let questions = c.evaluate_remembered.new.self.questions in
    let same : looks_of c.count.new.self ≡ looks = ap looks_of c.count.ensures in
    if_ok c.evaluate_remembered.result (IsEvaluated looks questions request) (λ (e : ListedEvaluation). e.failed ≡ has_cause looks request) (λ e is. is.failed)
    (subst (λ (l : Looks). IfOk c.evaluate_remembered.result (IsEvaluated l questions request)) same c.evaluate_remembered.ensures.evaluated)

pub returns-clause-reads : goal.returns-clause-reads
returns-clause-reads g c =
    let looks = looks_of c.args.self.now.pdp in
    let request = request_by c.args.names in
    let questions = c.evaluate_remembered.new.self.questions in
    let same : looks_of c.count.new.self ≡ looks = ap looks_of c.count.ensures in
    reads_by c.evaluate_remembered.result looks request questions
    (if_ok c.evaluate_remembered.result (IsEvaluated looks questions request) (λ (e : ListedEvaluation). at_numbers questions e.asked ≡ asked_once [] (asked looks request)) (λ e is. is.asked)
    (subst (λ (l : Looks). IfOk c.evaluate_remembered.result (IsEvaluated l questions request)) same c.evaluate_remembered.ensures.evaluated))

pub returns-clause-knows : goal.returns-clause-knows
returns-clause-knows g c =
    subst (λ (p : Point). Remembers (looks_of p) c.evaluate_remembered.new.self.questions c.evaluate_remembered.new.self.memory)
    (sym c.evaluate_remembered.ensures.rest) c.evaluate_remembered.ensures.knows

pub returns-clause-again : goal.returns-clause-again
returns-clause-again g c =
    let same : looks_of c.count.new.self ≡ looks_of c.args.self.now.pdp = ap looks_of c.count.ensures in
    let request = request_by c.args.names in
    λ known. c.evaluate_remembered.ensures.again (subst (λ (l : Looks). IsKnown l c.args.self.now.questions c.args.self.now.memory request) (sym same) known)
