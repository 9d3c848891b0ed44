use Rattle.std.proofs.Common.{◌≡◌, ◌∙◌, Some, [], ap, subst, sym}
use Rattle.std.specs.Prelude.{IfSome}
use Rattle.ent_walk.specs.Answer.{answer_part, asked}
use Rattle.ent_eval.specs.LooksOf.{looks_of}
use Rattle.ent_eval.specs.Point.{Point}
use Rattle.ent_request.specs.Questions.{AreNumbers, asked_once, at_numbers}
use Rattle.ent_trace.proofs.AtEnd.{told_failed, told_questions}
use Rattle.ent_eval.proofs.pdp.Pdp.evaluate_numbered.Goals as goal

pub returns-clause-evaluated : goal.returns-clause-evaluated
returns-clause-evaluated g c =
    let pdp = c.self.inside in
    let point : Point = record {
      sources = g.A.Attributes.sources pdp.attributes;
      slots = g.P.Policies.slots pdp.policies;
      root = pdp.root;
      environment = pdp.environment;
      evaluations = pdp.evaluations;
    } in
    let questions = asked (looks_of point) c.args.request.now in
    let notes = (answer_part (looks_of point) c.args.request.now).notes in
    let is : c.walked.new.notes.questions ≡ Some (asked_once [] questions) = ap (λ n. n.questions) c.in_ok-answer.ensures.notes ∙ told_questions c.open-notes.result [] notes (ap (λ n. n.questions) c.open-notes.ensures) in
    rw (← c.self.view_is) (record {
      answer = c.in_ok-answer-2.ensures ∙ c.in_ok-answer.ensures.answer;
      asked = ap (at_numbers c.numbers_among.new.questions) c.in_ok-asked.ensures
          ∙ subst (λ n. IfSome n (λ qs. at_numbers c.numbers_among.new.questions c.in_ok-numbers.numbers ≡ qs)) is c.in_ok-numbers.ensures.asked;
      within = subst (AreNumbers c.numbers_among.new.questions) (sym c.in_ok-asked.ensures) c.in_ok-numbers.ensures.within;
      failed = c.has_failed-failed.ensures ∙ ap (λ n. n.failed) c.in_ok-answer.ensures.notes ∙ told_failed c.open-notes.result notes (ap (λ n. n.failed) c.open-notes.ensures);
    })
