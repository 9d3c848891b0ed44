use Rattle.std.proofs.Common.{[], ◌∷◌, codes, decimal}
use Rattle.json.specs.Token as token
use Rattle.ent_line.proofs.TextLemmas.{ends}
use Rattle.ent_line.proofs.standing.write_front.Goals as goal

pub returns : goal.returns
returns c =
    ends _ _ _ _ (token.begin_object ∷ []) _ c.in_ok-begin_object.ensures.ok
    (ends _ _ _ _ (token.key (codes "actions") ∷ token.number (decimal c.args.actions) ∷ []) _ c.in_ok-write_count.ensures
    (ends _ _ _ _ (token.key (codes "cells") ∷ token.number (decimal c.args.cells) ∷ []) _ c.in_ok-write_count-2.ensures c.write_count-3.ensures))
