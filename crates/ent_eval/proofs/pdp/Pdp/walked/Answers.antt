use Rattle.std.proofs.Common.{◌≡◌, rules}
use Rattle.ent_walk.specs.Answer.{answer_part}
use Rattle.ent_eval.specs.LooksOf.{looks_of}
use Rattle.ent_walk.proofs.Parts.{notes_came, value_came}
use Rattle.ent_eval.proofs.pdp.Pdp.walked.Goals as goal

pub returns-clause-answer : goal.returns-clause-answer
returns-clause-answer g c =
    value_came looks_of answer_part _ c.args.request.now c.args.notes.now c.over-walk.result c.over-walk.ensures.held c.over-walk.ensures.request c.answer-came.result c.answer-came.new.self
    c.answer-came.ensures.comes

pub returns-clause-notes : goal.returns-clause-notes
returns-clause-notes g c =
    let noted : c.over-walk.result.notes ≡ c.args.notes.now = search rules in
    notes_came looks_of answer_part _ c.args.request.now c.args.notes.now c.over-walk.result c.over-walk.ensures.held c.over-walk.ensures.request c.answer-came.result c.answer-came.new.self
    noted c.answer-came.ensures.comes
