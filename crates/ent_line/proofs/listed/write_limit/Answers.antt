use Rattle.std.proofs.Common.{[], ◌∷◌, codes, decimal}
use Rattle.json.specs.Token as token
use Rattle.ent_line.proofs.TextLemmas.{ends}
use Rattle.ent_line.proofs.listed.write_limit.Goals as goal

pub returns : goal.returns
returns c =
    ends _ _ _ _ (token.key c.args.key.now ∷ []) _ c.in_ok-key.ensures.ok
    (ends _ _ _ _ (token.begin_object ∷ []) _ c.in_ok-begin_object.ensures.ok
    (ends _ _ _ _ (token.key (codes "most") ∷ token.number (decimal c.args.most) ∷ []) _ c.in_ok-write_count.ensures
    (ends _ _ _ _ (token.key (codes "taken") ∷ token.number (decimal c.args.taken) ∷ []) _ c.in_ok-write_count-2.ensures c.end_object.ensures.ok)))
