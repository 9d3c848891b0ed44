use Rattle.std.proofs.Common.{[], codes, ◌∷◌}
use Rattle.json.specs.Token as token
use Rattle.ent_json.specs.Text.{tokens_of}
use Rattle.ent_polform.proofs.TextLemmas.{ends}
use Rattle.ent_polform.specs.Written.{reference_written}
use Rattle.ent_dump.proofs.commands.write_root.Goals as goal

pub returns : goal.returns
returns c =
    (ends _ _ _ _ (token.begin_object ∷ []) _ c.in_ok-begin_object.ensures.ok
    (ends _ _ _ _ (token.key (codes "do") ∷ token.string (codes "root.set") ∷ []) _ c.in_ok-write_text.ensures
    (ends _ _ _ _ (token.key (codes "reference") ∷ []) _ c.in_ok-key.ensures.ok
    (ends _ _ _ _ (tokens_of (reference_written c.args.root.now)) _ c.in_ok-write_reference_text.ensures c.end_object.ensures.ok))))
