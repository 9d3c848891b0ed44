use Rattle.std.proofs.Common.{◌∙◌}
use Rattle.ent_line.specs.Listed.{names_reply}
use Rattle.ent_line.proofs.TextLemmas.{written}
use Rattle.ent_line.proofs.listed.names_text.Goals as goal

pub returns : goal.returns
unfolding names_reply
returns c =
    c.into_string.ensures ∙ written (names_reply c.args.names.now) _ _ c.in_ok-out.ensures c.in_ok-write_names_reply.ensures
