use Rattle.std.proofs.Common.{◌≡◌, Some, ap, sym, rules, slice_get, ◌∙◌}
use Rattle.ent_request.proofs.Numbered.{found_at, with_there}
use Rattle.ent_request.proofs.Sames.{question-Decides}
use Rattle.ent_request.proofs.questions.Questions.note.Goals as goal

pub returns-then-is_of-clause-ok : goal.returns-then-is_of-clause-ok
returns-then-is_of-clause-ok c =
    let at : slice_get c.args.self.now c.args.likely ≡ Some c.args.question.now = search rules in
    with_there c.args.self.now c.args.likely c.args.question.now at

pub returns-in-Some-clause-number : goal.returns-in-Some-clause-number
returns-in-Some-clause-number c = found_at c.args.self.now c.args.question.now c.in-Some.number (sym c.in-Some.ensures.number)

pub returns-in-Some-clause-ok : goal.returns-in-Some-clause-ok
returns-in-Some-clause-ok c =
    with_there c.args.self.now c.in-Some.number c.args.question.now (found_at c.args.self.now c.args.question.now c.in-Some.number (sym c.in-Some.ensures.number))

pub returns-clause-number : goal.returns-clause-number
returns-clause-number c =
    let stored = c.in_ok-number.ensures.stored in
    stored.1 ∙ ap Some (sym ((question-Decides c.in_ok-copy.field-0 stored.0).0 stored.2)) ∙ ap Some c.in_ok-copy.ensures
