use Rattle.std.proofs.Common.{◌∙◌}
use Rattle.ent_line.specs.Reports.{by_rule_reply}
use Rattle.ent_line.proofs.TextLemmas.{written}
use Rattle.ent_line.proofs.reports.by_rule_text.Goals as goal

pub returns : goal.returns
unfolding by_rule_reply
returns c =
    c.into_string.ensures ∙ written (by_rule_reply c.args.found.now) _ _ c.in_ok-out.ensures c.in_ok-write_by_rule_reply.ensures
