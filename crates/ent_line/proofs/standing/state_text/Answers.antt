use Rattle.std.proofs.Common.{◌∙◌}
use Rattle.ent_line.specs.Standing.{state_reply}
use Rattle.ent_line.proofs.TextLemmas.{written}
use Rattle.ent_line.proofs.standing.state_text.Goals as goal

pub returns : goal.returns
unfolding state_reply
returns g c =
    let world = c.args.desk.now.world in
    c.into_string.ensures ∙ written (state_reply world) _ _ c.in_ok-out.ensures c.in_ok-write_state_reply.ensures
