use Rattle.std.proofs.Common.{[], ◌∷◌}
use Rattle.json.specs.Token as token
use Rattle.ent_json.specs.Text.{tokens_of}
use Rattle.ent_polform.proofs.TextLemmas.{ends}
use Rattle.ent_polform.specs.Written.{reference_body, reference_written}
use Rattle.ent_polform.proofs.text_documents.write_reference_text.Goals as goal

pub returns : goal.returns
unfolding reference_written
returns c =
    rw (← c.reference_key.ensures)
    (ends _ _ _ _ (token.begin_object ∷ []) _ c.in_ok-begin_object.ensures.ok
    (ends _ _ _ _ (token.key c.reference_key.result.now ∷ []) _ c.in_ok-key.ensures.ok
    (ends _ _ _ _ (tokens_of (reference_body c.args.reference.now)) _ c.in_ok-write_reference_body.ensures c.end_object.ensures.ok)))
