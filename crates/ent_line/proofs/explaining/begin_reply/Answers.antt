use Rattle.std.proofs.Common.{[], ◌∷◌, codes}
use Rattle.json.specs.Token as token
use Rattle.ent_line.proofs.TextLemmas.{ends}
use Rattle.ent_line.proofs.explaining.begin_reply.Goals as goal

pub returns : goal.returns
returns c =
    ends _ _ _ _ (token.begin_object ∷ []) _ c.in_ok-begin_object.ensures.ok
    (ends _ _ _ _ (token.key (codes "explain") ∷ []) _ c.in_ok-key.ensures.ok
    (ends _ _ _ _ (token.begin_object ∷ []) _ c.in_ok-begin_object-2.ensures.ok c.key-2.ensures.ok))
