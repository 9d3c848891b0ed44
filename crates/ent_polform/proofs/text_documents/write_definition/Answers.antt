use Rattle.std.proofs.Common.{[], codes, ◌∷◌}
use Rattle.json.specs.Token as token
use Rattle.ent_json.specs.Text.{tokens_of}
use Rattle.ent_polform.proofs.TextLemmas.{ends}
use Rattle.ent_polform.specs.Written.{definition_written, expression_written}
use Rattle.ent_polform.proofs.text_documents.write_definition.Goals as goal

pub returns : goal.returns
unfolding definition_written
returns c =
    let d = c.args.definition.now in
    rw (← c.as_str.ensures)
    (ends _ _ _ _ (token.begin_object ∷ []) _ c.in_ok-begin_object.ensures.ok
    (ends _ _ _ _ (token.key (codes "Expression") ∷ []) _ c.in_ok-key.ensures.ok
    (ends _ _ _ _ (tokens_of (expression_written d.expression)) _ c.in_ok-write_expression.ensures
    (ends _ _ _ _ (token.key (codes "VariableId") ∷ token.string c.as_str.result.now ∷ []) _ c.in_ok-write_text.ensures c.end_object.ensures.ok))))
