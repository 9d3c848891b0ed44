use Rattle.std.proofs.Common.{[], codes, ◌∷◌}
use Rattle.json.specs.Token as token
use Rattle.ent_polform.proofs.TextLemmas.{ends, some_tokens}
use Rattle.ent_polform.specs.Written.{definition_written}
use Rattle.ent_polform.proofs.text_documents.write_definitions.Goals as goal

pub returns : goal.returns
returns c =
    rw (some_tokens definition_written (codes "VariableDefinition") c.args.all.now c.if-is_empty.ensures)
    (ends _ _ _ _ (token.key (codes "VariableDefinition") ∷ []) _ c.in_ok-key.ensures.ok
    (ends _ _ _ _ (token.begin_array ∷ []) _ c.in_ok-begin_array.ensures.ok c.write_each_definition.ensures))
