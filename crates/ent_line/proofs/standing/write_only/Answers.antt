use Rattle.std.proofs.Common.{[], ◌∷◌}
use Rattle.json.specs.Token as token
use Rattle.ent_line.proofs.TextLemmas.{ends}
use Rattle.ent_line.proofs.standing.write_only.Goals as goal

pub returns : goal.returns
returns c =
    ends _ _ _ _ (token.begin_object ∷ []) _ c.in_ok-begin_object.ensures.ok
    (ends _ _ _ _ (token.key c.args.key.now ∷ token.string c.args.text.now ∷ []) _ c.in_ok-write_text.ensures c.end_object.ensures.ok)
