use Rattle.std.proofs.Common.{[], codes, ◌∷◌}
use Rattle.json.specs.Token as token
use Rattle.ent_polform.proofs.TextLemmas.{ends}
use Rattle.ent_dump.proofs.commands.write_name.Goals as goal

pub returns : goal.returns
returns c =
    rw (← c.adding.ensures)
    (ends _ _ _ _ (token.begin_object ∷ []) _ c.in_ok-begin_object.ensures.ok
    (ends _ _ _ _ (token.key (codes "do") ∷ token.string c.adding.result.now ∷ []) _ c.in_ok-write_text.ensures
    (ends _ _ _ _ (token.key (codes "name") ∷ token.string c.args.name.now ∷ []) _ c.in_ok-write_text-2.ensures c.end_object.ensures.ok)))
