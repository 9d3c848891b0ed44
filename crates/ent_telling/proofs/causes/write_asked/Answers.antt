use Rattle.std.proofs.Common.{List, Some, [], codes, ◌∷◌}
use Rattle.std.specs.Option.{option_map_or}
use Rattle.json.specs.Token as token
use Rattle.serde_json.specs.Data as json
use Rattle.ent_values.specs.Types.{uri_of}
use Rattle.ent_json.specs.Text.{tokens_of}
use Rattle.ent_polform.proofs.TextLemmas.{ends, object_tokens}
use Rattle.ent_polform.specs.proofs_only.Texts.{Part}
use Rattle.ent_telling.proofs.causes.write_asked.Goals as goal

pub returns : goal.returns
returns c =
    let asked = c.args.asked.now in
    let members : List Part =
    (codes "attribute", Some (json.string asked.attribute)) ∷ (codes "category", Some (json.string asked.category))
    ∷ (codes "datatype", Some (json.string (uri_of asked.datatype)))
    ∷ (codes "issuer", Some (option_map_or json.string asked.issuer json.null)) ∷ [] in
    rw (object_tokens members, ← c.as_str.ensures, ← c.as_str-2.ensures, ← c.uri.ensures)
    (ends _ _ _ _ (token.begin_object ∷ []) _ c.in_ok-begin_object.ensures.ok
    (ends _ _ _ _ (token.key (codes "attribute") ∷ token.string c.as_str.result.now ∷ []) _ c.in_ok-write_text.ensures
    (ends _ _ _ _ (token.key (codes "category") ∷ token.string c.as_str-2.result.now ∷ []) _ c.in_ok-write_text-2.ensures
    (ends _ _ _ _ (token.key (codes "datatype") ∷ token.string c.uri.result.now ∷ []) _ c.in_ok-write_text-3.ensures
    (ends _ _ _ _ (token.key (codes "issuer") ∷ tokens_of (option_map_or json.string asked.issuer json.null)) _ c.in_ok-write_issuer.ensures c.end_object.ensures.ok)))))
