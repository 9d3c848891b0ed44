use Rattle.std.proofs.Common.{◌∙◌}
use Rattle.ent_line.specs.Reports.{who_reply}
use Rattle.ent_line.proofs.TextLemmas.{written}
use Rattle.ent_line.proofs.reports.who_text.Goals as goal

pub returns : goal.returns
unfolding who_reply
returns c =
    c.into_string.ensures ∙ written (who_reply c.args.people.now) _ _ c.in_ok-out.ensures c.in_ok-write_who_reply.ensures
