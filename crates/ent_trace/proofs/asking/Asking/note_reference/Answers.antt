use Rattle.std.proofs.Common.{◌≡◌, Some, ap, rules, slice_get, ◌∙◌}
use Rattle.ent_request.specs.declared.question.Question.TheVariants.{Ref}
use Rattle.ent_trace.specs.proofs_only.Noted.{with_question}
use Rattle.ent_request.proofs.Numbering.{noted_there}
use Rattle.ent_trace.proofs.asking.Asking.note_reference.Goals as goal

pub invariant_of-self-then-is_reference : goal.invariant_of-self-then-is_reference
invariant_of-self-then-is_reference c =
    let at : slice_get c.self.inside.questions.keys c.number_in-number.result ≡ Some (Ref c.args.reference.now) = search rules in
    (noted_there c.self.inside.questions.keys c.self.inside.numbers c.note.new.self c.number_in-number.result (Ref c.args.reference.now) c.self.invariant at c.in_ok-note.ensures.ok).0

pub returns-then-is_reference : goal.returns-then-is_reference
returns-then-is_reference c =
    let at : slice_get c.self.inside.questions.keys c.number_in-number.result ≡ Some (Ref c.args.reference.now) = search rules in
    (noted_there c.self.inside.questions.keys c.self.inside.numbers c.note.new.self c.number_in-number.result (Ref c.args.reference.now) c.self.invariant at c.in_ok-note.ensures.ok).1
    ∙ ap (λ qs. with_question qs (Ref c.args.reference.now)) c.self.view_is
