use Rattle.std.proofs.Common.{List, Some, [], codes, option_map, ◌∷◌}
use Rattle.json.specs.Token as token
use Rattle.serde_json.specs.Data as json
use Rattle.ent_json.specs.Text.{tokens_of}
use Rattle.ent_polform.proofs.TextLemmas.{ends, object_tokens}
use Rattle.ent_json.specs.proofs_only.Keyed.{optional_tokens}
use Rattle.ent_polform.specs.proofs_only.Texts.{Part}
use Rattle.ent_polform.specs.Written.{assignment_written, expression_written}
use Rattle.ent_polform.proofs.text_given.write_assignment.Goals as goal

pub returns : goal.returns
unfolding assignment_written
returns c =
    let a = c.args.assignment.now in
    let members : List Part =
    (codes "AttributeId", Some (json.string a.attribute)) ∷ (codes "Category", option_map json.string a.category)
    ∷ (codes "Expression", Some (expression_written a.expression))
    ∷ (codes "Issuer", option_map json.string a.issuer) ∷ [] in
    rw (object_tokens members, ← c.as_str.ensures)
    (ends _ _ _ _ (token.begin_object ∷ []) _ c.in_ok-begin_object.ensures.ok
    (ends _ _ _ _ (token.key (codes "AttributeId") ∷ token.string c.as_str.result.now ∷ []) _ c.in_ok-write_text.ensures
    (ends _ _ _ _ (optional_tokens (codes "Category") (option_map json.string a.category)) _ c.in_ok-write_optional.ensures
    (ends _ _ _ _ (token.key (codes "Expression") ∷ []) _ c.in_ok-key.ensures.ok
    (ends _ _ _ _ (tokens_of (expression_written a.expression)) _ c.in_ok-write_expression.ensures
    (ends _ _ _ _ (optional_tokens (codes "Issuer") (option_map json.string a.issuer)) _ c.in_ok-write_optional-2.ensures c.end_object.ensures.ok))))))
