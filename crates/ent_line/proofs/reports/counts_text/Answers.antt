use Rattle.std.proofs.Common.{◌∙◌}
use Rattle.ent_line.specs.Reports.{counts_reply}
use Rattle.ent_line.proofs.TextLemmas.{written}
use Rattle.ent_line.proofs.reports.counts_text.Goals as goal

pub returns : goal.returns
unfolding counts_reply
returns c =
    c.into_string.ensures ∙ written (counts_reply c.args.counts) _ _ c.in_ok-out.ensures c.in_ok-write_counts_reply.ensures
