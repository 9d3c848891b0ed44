use Rattle.std.proofs.Common.{[], ◌∷◌, codes, decimal}
use Rattle.json.specs.Token as token
use Rattle.ent_line.proofs.TextLemmas.{ends}
use Rattle.ent_line.proofs.standing.write_end.Goals as goal

pub returns : goal.returns
returns c =
    ends _ _ _ _ (token.key (codes "rows") ∷ token.number (decimal c.args.rows) ∷ []) _ c.in_ok-write_count.ensures
    (ends _ _ _ _ (token.key (codes "serial") ∷ token.number (decimal c.args.serial) ∷ []) _ c.in_ok-write_count-2.ensures c.end_object.ensures.ok)
