use Rattle.std.proofs.Common.{List, Some, [], codes, map, ◌∷◌}
use Rattle.json.specs.Token as token
use Rattle.serde_json.specs.Data as json
use Rattle.ent_functions.specs.Identifiers.{id_of}
use Rattle.ent_json.specs.Members.{filled_list}
use Rattle.ent_json.specs.Text.{tokens_of}
use Rattle.ent_polform.proofs.TextLemmas.{ends, object_tokens}
use Rattle.ent_json.specs.proofs_only.Keyed.{optional_tokens}
use Rattle.ent_polform.specs.proofs_only.Texts.{Part}
use Rattle.ent_polform.specs.Written.{apply_written, expression_written}
use Rattle.ent_polform.proofs.text_expressions.+expression.Goals as goal

pub write_applied-returns : goal.write_applied-returns
write_applied-returns t c =
    let arguments = filled_list (map expression_written c.args.arguments.now) in
    let members : List Part =
    (codes "Arguments", arguments) ∷ (codes "FunctionId", Some (json.string (id_of c.args.function))) ∷ [] in
    rw (object_tokens members, ← c.in_ok-id.ensures, ← c.as_str.ensures)
    (ends _ _ _ _ (token.begin_object ∷ []) _ c.in_ok-begin_object.ensures.ok
    (ends _ _ _ _ (optional_tokens (codes "Arguments") (arguments)) _ c.in_ok-write_arguments.ensures
    (ends _ _ _ _ (token.key (codes "FunctionId") ∷ token.string c.as_str.result.now ∷ []) _ c.in_ok-write_text.ensures c.end_object.ensures.ok)))

pub write_apply-returns : goal.write_apply-returns
write_apply-returns t c =
    (ends _ _ _ _ (token.begin_object ∷ []) _ c.in_ok-begin_object.ensures.ok
    (ends _ _ _ _ (token.key (codes "Apply") ∷ []) _ c.in_ok-key.ensures.ok
    (ends _ _ _ _ (tokens_of (apply_written c.args.function (map expression_written c.args.arguments.now))) _ c.in_ok-write_applied.ensures c.end_object.ensures.ok)))
