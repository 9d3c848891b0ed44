use Rattle.std.proofs.Common.{[], codes, decimal, ◌∷◌}
use Rattle.json.specs.Token as token
use Rattle.ent_json.specs.Text.{tokens_of}
use Rattle.ent_polform.proofs.TextLemmas.{ends}
use Rattle.ent_polform.specs.Written.{written}
use Rattle.ent_dump.proofs.commands.write_document.Goals as goal

pub returns : goal.returns
returns c =
    (ends _ _ _ _ (token.begin_object ∷ []) _ c.in_ok-begin_object.ensures.ok
    (ends _ _ _ _ (token.key (codes "do") ∷ token.string (codes "policy.add") ∷ []) _ c.in_ok-write_text.ensures
    (ends _ _ _ _ (token.key (codes "document") ∷ []) _ c.in_ok-key.ensures.ok
    (ends _ _ _ _ (tokens_of (written c.args.document.now)) _ c.in_ok-write_document_text.ensures
    (ends _ _ _ _ (token.key (codes "module") ∷ token.number (decimal c.args.number) ∷ []) _ c.in_ok-write_count.ensures c.end_object.ensures.ok)))))
