use Rattle.std.proofs.Common.{sym}
use Rattle.ent_request.specs.declared.question.Question.TheVariants.{Root}
use Rattle.ent_request.proofs.Numbered.{found_at}
use Rattle.memo_replay.specs.proofs_only.Stands.{questions_of}
use Rattle.memo_replay.proofs.over.Over.ask_root.Goals as goal

pub returns-in_ok-ask-in-Some-clause-heard : goal.returns-in_ok-ask-in-Some-clause-heard
returns-in_ok-ask-in-Some-clause-heard g c =
    let questions = questions_of c.args.self.now in
    c.in_ok-ask-in-Some.ensures.heard questions Root c.in-Some.ensures.distinct (found_at questions Root c.in-Some.number (sym c.in-Some.ensures.number))
