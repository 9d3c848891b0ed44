use Rattle.std.proofs.Common.{◌≡◌, Some, ap, rules, slice_get, ◌∙◌}
use Rattle.ent_request.specs.Sources.{asked_of}
use Rattle.ent_request.specs.declared.question.Question.TheVariants.{Of}
use Rattle.ent_trace.specs.proofs_only.Noted.{with_question}
use Rattle.ent_request.proofs.Numbering.{noted_there}
use Rattle.ent_trace.proofs.asking.Asking.note_values.Goals as goal

pub invariant_of-self-then-is_of : goal.invariant_of-self-then-is_of
invariant_of-self-then-is_of c =
    let at : slice_get c.self.inside.questions.keys c.number_in-number.result ≡ Some (Of (asked_of c.args.designator.now)) = search rules in
    (noted_there c.self.inside.questions.keys c.self.inside.numbers c.note.new.self c.number_in-number.result (Of (asked_of c.args.designator.now)) c.self.invariant at c.in_ok-note.ensures.ok).0

pub returns-then-is_of : goal.returns-then-is_of
returns-then-is_of c =
    let at : slice_get c.self.inside.questions.keys c.number_in-number.result ≡ Some (Of (asked_of c.args.designator.now)) = search rules in
    (noted_there c.self.inside.questions.keys c.self.inside.numbers c.note.new.self c.number_in-number.result (Of (asked_of c.args.designator.now)) c.self.invariant at c.in_ok-note.ensures.ok).1
    ∙ ap (λ qs. with_question qs (Of (asked_of c.args.designator.now))) c.self.view_is
