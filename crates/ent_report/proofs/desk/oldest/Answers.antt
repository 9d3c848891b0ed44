use Rattle.std.proofs.Common.{ap, drop, ◌+◌, ◌∙◌}
use Rattle.ent_report.specs.Serials.{oldest}
use Rattle.ent_report.proofs.Marks.{oldest_none, oldest_some}
use Rattle.ent_report.proofs.desk.oldest.Goals as goal
use Rattle.ent_report.proofs.desk.oldest.Goals.{in-Some, in_default}

pub loop-mark-preserved : goal.loop-mark-preserved
loop-mark-preserved c =
    let marks = c.args.marks.now in
    let i = c.loop-mark.mark-index in
    elim c.match-mark.branch [
      | in-Some w ↦
          ap (oldest (drop (i + 1) marks)) (w.least-is ∙ w.min-least.ensures)
          ∙ oldest_some marks i c.loop-mark.least w.in-Some.mark c.loop-mark-test.true w.in-Some.is ∙ c.loop-mark.invariant
      | in_default w ↦
          ap (oldest (drop (i + 1) marks)) w.least-is ∙ oldest_none marks i c.loop-mark.least c.loop-mark-test.true w.in_default.is ∙ c.loop-mark.invariant
    ]
