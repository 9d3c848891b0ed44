use Rattle.std.proofs.Common.{[], ◌∷◌, codes, decimal}
use Rattle.json.specs.Token as token
use Rattle.ent_line.proofs.TextLemmas.{ends}
use Rattle.ent_line.proofs.standing.write_listed.Goals as goal

pub returns : goal.returns
returns c =
    ends _ _ _ _ (token.key (codes "people") ∷ token.number (decimal c.args.people) ∷ []) _ c.in_ok-write_count.ensures
    (ends _ _ _ _ (token.key (codes "resources") ∷ token.number (decimal c.args.resources) ∷ []) _ c.in_ok-write_count-2.ensures
    (ends _ _ _ _ (token.key (codes "root") ∷ []) _ c.in_ok-key.ensures.ok c.write_root.ensures))
