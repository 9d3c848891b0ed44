use Rattle.std.proofs.Common.{◌≡◌, IfOk, OnOk, ap, subst}
use Rattle.ent_walk.specs.Answer.{answer_part}
use Rattle.ent_eval.specs.LooksOf.{looks_of}
use Rattle.ent_trace.specs.proofs_only.Noted.{noting}
use Rattle.ent_request.specs.Looks.{Looks}
use Rattle.ent_eval.proofs.pdp.Pdp.answered.Goals as goal

pub returns-clause-answer : goal.returns-clause-answer
returns-clause-answer g c =
    let same : looks_of c.count.new.self ≡ looks_of c.args.self.now = ap looks_of c.count.ensures in
    subst (λ (l : Looks). IfOk c.walked.result (λ a. a ≡ (answer_part l c.args.request.now).value)) same c.walked.ensures.answer

pub returns-clause-notes : goal.returns-clause-notes
returns-clause-notes g c =
    let same : looks_of c.count.new.self ≡ looks_of c.args.self.now = ap looks_of c.count.ensures in
    subst (λ (l : Looks). OnOk c.walked.result (c.walked.new.notes ≡ noting c.args.notes.now (answer_part l c.args.request.now).notes)) same c.walked.ensures.notes
