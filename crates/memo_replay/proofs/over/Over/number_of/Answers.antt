use Rattle.std.proofs.Common.{sym, ap, ◌∙◌}
use Rattle.ent_policy.specs.declared.key.Reference.{Reference}
use Rattle.ent_request.specs.Questions.{number_of}
use Rattle.ent_request.specs.declared.question.Question.TheVariants.{Ref}
use Rattle.ent_request.proofs.Numbered.{found_at}
use Rattle.memo_replay.specs.proofs_only.Stands.{questions_of}
use Rattle.memo_replay.proofs.over.Over.number_of.Goals as goal

pub returns-clause-number : goal.returns-clause-number
returns-clause-number g c =
    let questions = questions_of c.args.self.now in
    found_at questions (Ref c.args.reference.now) c.in-Some-number_of.number
    (ap (λ (r : Reference). number_of questions (Ref r)) (sym c.in_ok-copy.ensures) ∙ sym c.in-Some-number_of.ensures.number)
