use Rattle.std.proofs.Common.{◌∙◌}
use Rattle.ent_table.specs.Left.{judged_left}
use Rattle.ent_line.specs.Reports.{faults_reply}
use Rattle.ent_line.specs.proofs_only.Failing.{failed_in}
use Rattle.ent_line.proofs.TextLemmas.{written}
use Rattle.ent_line.proofs.faulting.faults_text.Goals as goal

pub returns : goal.returns
unfolding faults_reply
returns g c =
    c.into_string.ensures ∙ written (faults_reply (failed_in (judged_left c.args.cells))) _ _ c.in_ok-out.ensures c.in_ok-write_reply.ensures
