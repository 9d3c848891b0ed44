use Rattle.std.proofs.Common.{[], codes, ◌∷◌}
use Rattle.json.specs.Token as token
use Rattle.ent_json.specs.Text.{tokens_of}
use Rattle.ent_polform.proofs.TextLemmas.{ends}
use Rattle.ent_polform.specs.Written.{literal_written, value_written}
use Rattle.ent_polform.proofs.text_values.write_literal.Goals as goal

pub returns : goal.returns
unfolding literal_written
returns c =
    rw (← c.datatype.ensures, ← c.uri.ensures)
    (ends _ _ _ _ (token.begin_object ∷ []) _ c.in_ok-begin_object.ensures.ok
    (ends _ _ _ _ (token.key (codes "DataType") ∷ token.string c.uri.result.now ∷ []) _ c.in_ok-write_text.ensures
    (ends _ _ _ _ (token.key (codes "Value") ∷ []) _ c.in_ok-key.ensures.ok
    (ends _ _ _ _ (tokens_of (value_written c.args.value.now)) _ c.in_ok-write_value_text.ensures c.end_object.ensures.ok))))
