use Rattle.std.proofs.Common.{[], ◌∷◌, codes}
use Rattle.json.specs.Token as token
use Rattle.ent_json.specs.Text.{tokens_of}
use Rattle.ent_line.specs.Standing.{state_data}
use Rattle.ent_line.proofs.TextLemmas.{ends}
use Rattle.ent_line.proofs.standing.write_state_reply.Goals as goal

pub returns : goal.returns
returns g c =
    let world = c.args.desk.now.world in
    ends _ _ _ _ (token.begin_object ∷ []) _ c.in_ok-begin_object.ensures.ok
    (ends _ _ _ _ (token.key (codes "state") ∷ []) _ c.in_ok-key.ensures.ok
    (ends _ _ _ _ (tokens_of (state_data world)) _ c.in_ok-write_state.ensures c.end_object.ensures.ok))
