use Rattle.std.proofs.Common.{◌∙◌}
use Rattle.ent_line.specs.Reports.{changes_reply}
use Rattle.ent_line.proofs.TextLemmas.{written}
use Rattle.ent_line.proofs.reports.changes_text.Goals as goal

pub returns : goal.returns
unfolding changes_reply
returns c =
    c.into_string.ensures ∙ written (changes_reply c.args.notices.now c.args.serial) _ _ c.in_ok-out.ensures c.in_ok-write_changes_reply.ensures
