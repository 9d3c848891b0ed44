use Rattle.std.proofs.Common.{List, Some, [], codes, option_map, ◌∷◌}
use Rattle.json.specs.Token as token
use Rattle.serde_json.specs.Data as json
use Rattle.ent_polform.proofs.TextLemmas.{ends, object_tokens}
use Rattle.ent_json.specs.proofs_only.Keyed.{optional_tokens}
use Rattle.ent_polform.specs.proofs_only.Texts.{Part}
use Rattle.ent_polform.specs.Written.{designator_written}
use Rattle.ent_values.specs.Types.{uri_of}
use Rattle.ent_polform.proofs.text_values.write_designator.Goals as goal

pub returns : goal.returns
unfolding designator_written
returns c =
    let d = c.args.designator.now in
    let members : List Part =
    (codes "AttributeId", Some (json.string d.attribute)) ∷ (codes "Category", Some (json.string d.category))
    ∷ (codes "DataType", Some (json.string (uri_of d.datatype)))
    ∷ (codes "Issuer", option_map json.string d.issuer)
    ∷ (codes "MustBePresent", Some (json.boolean d.must_be_present)) ∷ [] in
    rw (object_tokens members, ← c.as_str.ensures, ← c.as_str-2.ensures, ← c.uri.ensures)
    (ends _ _ _ _ (token.begin_object ∷ []) _ c.in_ok-begin_object.ensures.ok
    (ends _ _ _ _ (token.key (codes "AttributeId") ∷ token.string c.as_str.result.now ∷ []) _ c.in_ok-write_text.ensures
    (ends _ _ _ _ (token.key (codes "Category") ∷ token.string c.as_str-2.result.now ∷ []) _ c.in_ok-write_text-2.ensures
    (ends _ _ _ _ (token.key (codes "DataType") ∷ token.string c.uri.result.now ∷ []) _ c.in_ok-write_text-3.ensures
    (ends _ _ _ _ (optional_tokens (codes "Issuer") (option_map json.string d.issuer)) _ c.in_ok-write_optional.ensures
    (ends _ _ _ _ (token.key (codes "MustBePresent") ∷ []) _ c.in_ok-key.ensures.ok
    (ends _ _ _ _ (token.boolean d.must_be_present ∷ []) _ c.in_ok-boolean.ensures.ok c.end_object.ensures.ok)))))))
