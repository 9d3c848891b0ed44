use Rattle.std.proofs.Common.{◌∙◌}
use Rattle.ent_line.specs.Listed.{limits_reply}
use Rattle.ent_line.proofs.TextLemmas.{written}
use Rattle.ent_line.proofs.listed.limits_text.Goals as goal

pub returns : goal.returns
unfolding limits_reply
returns g c =
    c.into_string.ensures ∙ written (limits_reply c.args.review.now.state) _ _ c.in_ok-out.ensures c.in_ok-write_limits_reply.ensures
