use Rattle.std.proofs.Common.{◌∙◌}
use Rattle.ent_line.specs.Reports.{can_reply}
use Rattle.ent_line.proofs.TextLemmas.{written}
use Rattle.ent_line.proofs.reports.can_text.Goals as goal

pub returns : goal.returns
unfolding can_reply
returns c =
    c.into_string.ensures ∙ written (can_reply c.args.found.now) _ _ c.in_ok-out.ensures c.in_ok-write_can_reply.ensures
