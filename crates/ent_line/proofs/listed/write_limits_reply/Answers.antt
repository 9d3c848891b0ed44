use Rattle.std.proofs.Common.{[], ◌∷◌, codes}
use Rattle.json.specs.Token as token
use Rattle.ent_json.specs.Text.{tokens_of}
use Rattle.ent_line.specs.Listed.{limits_data}
use Rattle.ent_line.proofs.TextLemmas.{ends}
use Rattle.ent_line.proofs.listed.write_limits_reply.Goals as goal

pub returns : goal.returns
returns g c =
    ends _ _ _ _ (token.begin_object ∷ []) _ c.in_ok-begin_object.ensures.ok
    (ends _ _ _ _ (token.key (codes "limits") ∷ []) _ c.in_ok-key.ensures.ok
    (ends _ _ _ _ (tokens_of (limits_data c.args.review.now.state)) _ c.in_ok-write_limits.ensures c.end_object.ensures.ok))
