use Rattle.std.proofs.Common.{[], codes, decimal, ◌∷◌}
use Rattle.json.specs.Token as token
use Rattle.ent_polform.proofs.TextLemmas.{ends}
use Rattle.ent_dump.proofs.commands.write_format.Goals as goal

pub returns : goal.returns
returns c =
    (ends _ _ _ _ (token.begin_object ∷ []) _ c.in_ok-begin_object.ensures.ok
    (ends _ _ _ _ (token.key (codes "do") ∷ token.string (codes "format") ∷ []) _ c.in_ok-write_text.ensures
    (ends _ _ _ _ (token.key (codes "version") ∷ token.number (decimal c.args.version) ∷ []) _ c.in_ok-write_count.ensures c.end_object.ensures.ok)))
