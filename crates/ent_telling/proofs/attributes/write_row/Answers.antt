use Rattle.std.proofs.Common.{List, Some, [], codes, decimal, map, ◌∷◌}
use Rattle.json.specs.Token as token
use Rattle.serde_json.specs.Data as json
use Rattle.serde_json.specs.View.{items_of}
use Rattle.ent_json.specs.Text.{tokens_of}
use Rattle.ent_json.specs.proofs_only.Text.{items_tokens_of}
use Rattle.ent_polform.proofs.TextLemmas.{ends, object_tokens}
use Rattle.ent_polform.specs.Written.{value_written}
use Rattle.ent_polform.specs.proofs_only.Texts.{Part}
use Rattle.ent_values.specs.Types.{uri_of}
use Rattle.std.specs.Option.{option_map_or}
use Rattle.ent_telling.proofs.attributes.write_row.Goals as goal

pub returns : goal.returns
returns c =
    let key = c.args.key.now in
    let members : List Part =
    (codes "attribute", Some (json.string key.attribute)) ∷ (codes "datatype", Some (json.string (uri_of key.datatype)))
    ∷ (codes "issuer", Some (option_map_or json.string key.issuer json.null))
    ∷ (codes "module", Some (json.number (json.unsigned c.args.number)))
    ∷ (codes "values", Some (json.array (items_of (map value_written c.args.values.now)))) ∷ [] in
    rw (object_tokens members, ← c.as_str.ensures, ← c.uri.ensures)
    (ends _ _ _ _ (token.begin_object ∷ []) _ c.in_ok-begin_object.ensures.ok
    (ends _ _ _ _ (token.key (codes "attribute") ∷ token.string c.as_str.result.now ∷ []) _ c.in_ok-write_text.ensures
    (ends _ _ _ _ (token.key (codes "datatype") ∷ token.string c.uri.result.now ∷ []) _ c.in_ok-write_text-2.ensures
    (ends _ _ _ _ (token.key (codes "issuer") ∷ tokens_of (option_map_or json.string key.issuer json.null)) _ c.in_ok-write_issuer.ensures
    (ends _ _ _ _ (token.key (codes "module") ∷ token.number (decimal c.args.number) ∷ []) _ c.in_ok-write_module.ensures
    (ends _ _ _ _ (token.key (codes "values") ∷ []) _ c.in_ok-key.ensures.ok
    (ends _ _ _ _ (token.begin_array ∷ []) _ c.in_ok-begin_array.ensures.ok
    (ends _ _ _ _ (items_tokens_of (map value_written c.args.values.now)) _ c.in_ok-write_each_value.ensures c.end_object.ensures.ok))))))))
