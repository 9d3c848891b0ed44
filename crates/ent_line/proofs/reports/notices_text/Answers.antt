use Rattle.std.proofs.Common.{◌∙◌}
use Rattle.ent_line.specs.Reports.{notices_reply}
use Rattle.ent_line.proofs.TextLemmas.{written}
use Rattle.ent_line.proofs.reports.notices_text.Goals as goal

pub returns : goal.returns
unfolding notices_reply
returns c =
    c.into_string.ensures ∙ written (notices_reply c.args.notices.now) _ _ c.in_ok-out.ensures c.in_ok-write_notices_reply.ensures
