use Rattle.std.proofs.Common.{◌≡◌, ◌∙◌, ap}
use Rattle.serde_json.specs.Written.{compact_text}
use Rattle.ent_table.specs.Failed.{has_failed, judged}
use Rattle.ent_table.specs.Left.{judged_left}
use Rattle.ent_table.specs.State.{table_of}
use Rattle.ent_line.specs.Commands.{faults_told}
use Rattle.ent_line.specs.Replies.{text}
use Rattle.ent_line.specs.Reports.{faults_reply}
use Rattle.ent_report.specs.Desk.{Desked}
use Rattle.ent_line.specs.proofs_only.Failing.{failed_in}
use Rattle.ent_line.proofs.FailedLemmas.{failed_cells}
use Rattle.ent_line.proofs.service.Service.faults.Goals as goal

pub returns : goal.returns
unfolding faults_told
returns g c =
    let s = c.args.self.now.world.state in
    let left : judged_left c.judged.result ≡ judged s =
    c.judged.ensures ∙ ap (λ v. judged v.state) c.review.ensures ∙ ap (λ (d : Desked). judged d.world.state) c.self.view_is in
    ap text (c.in_ok-text.ensures ∙ ap (λ cells. compact_text (faults_reply (failed_in cells))) left
    ∙ ap (λ cells. compact_text (faults_reply cells)) (failed_cells (λ x. has_failed s x.0) (table_of s)))
