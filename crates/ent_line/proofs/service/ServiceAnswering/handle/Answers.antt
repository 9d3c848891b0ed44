use Rattle.std.proofs.Common.{ap, arith, ◌∙◌}
use Rattle.ent_report.specs.Desk.{Desked}
use Rattle.ent_line.specs.Answering.{reply_view}
use Rattle.ent_line.proofs.HandleLemmas.{heard_counts, long_counts, wanting_counts}
use Rattle.ent_line.proofs.service.ServiceAnswering.handle.Goals as goal

pub returns-then-line-gt-LINE_LIMIT-clause-answer : goal.returns-then-line-gt-LINE_LIMIT-clause-answer
returns-then-line-gt-LINE_LIMIT-clause-answer g c =
    long_counts c.args.self.now c.args.line.now (omega arith)

pub returns-in-Ok-clause-answer : goal.returns-in-Ok-clause-answer
returns-in-Ok-clause-answer g c =
    heard_counts c.args.self.now c.respond.new.self c.args.line.now
    (reply_view c.in-Ok.reply) (omega arith) c.in-Ok.ensures.reply c.in-Ok.ensures.work
    c.in-Ok.ensures.remembered

pub returns-in-Err-clause-answer : goal.returns-in-Err-clause-answer
returns-in-Err-clause-answer g c =
    wanting_counts c.args.self.now c.respond.new.self c.args.line.now
    (omega arith) c.in-Err.ensures.reply
    (omega (
      arith,
      c.evaluations-before.ensures ∙ ap (λ v. v.evaluations) c.review.ensures
          ∙ ap (λ (d : Desked). d.evaluations) c.self.view_is,
    )) c.in-Err.ensures.work
    c.in-Err.ensures.remembered
