use Rattle.std.proofs.Common.{ap, ◌∙◌}
use Rattle.ent_trace.specs.proofs_only.Noted.{with_question}
use Rattle.ent_request.proofs.Numbering.{noted_new}
use Rattle.ent_trace.proofs.asking.Asking.note.Goals as goal

pub invariant_of-self-2 : goal.invariant_of-self-2
invariant_of-self-2 c =
    (noted_new c.self.inside.questions.keys c.insert_full.new.self.keys c.self.inside.numbers c.note.new.self c.in_ok-number.number c.args.question c.in_ok-number.ensures.stored.0
    c.self.invariant c.in_ok-number.ensures.keys c.in_ok-number.ensures.unique c.in_ok-number.ensures.stored.1 c.in_ok-number.ensures.stored.2 c.in_ok-note.ensures.ok).0

pub returns : goal.returns
returns c =
    (noted_new c.self.inside.questions.keys c.insert_full.new.self.keys c.self.inside.numbers c.note.new.self c.in_ok-number.number c.args.question c.in_ok-number.ensures.stored.0
    c.self.invariant c.in_ok-number.ensures.keys c.in_ok-number.ensures.unique c.in_ok-number.ensures.stored.1 c.in_ok-number.ensures.stored.2 c.in_ok-note.ensures.ok).1
    ∙ ap (λ qs. with_question qs c.args.question) c.self.view_is
