use Rattle.std.proofs.Common.{[], ◌∷◌, codes, option_map}
use Rattle.json.specs.Token as token
use Rattle.serde_json.specs.Data as json
use Rattle.ent_json.specs.Text.{tokens_of}
use Rattle.ent_profile.specs.Response.{values_written}
use Rattle.ent_json.specs.proofs_only.Keyed.{optional_tokens}
use Rattle.ent_profile.proofs.TextLemmas.{ends}
use Rattle.ent_profile.proofs.TokenLemmas.{attribute_tokens, text_tokens}
use Rattle.ent_profile.proofs.included_text.write_attribute.Goals as goal

pub returns : goal.returns
returns c =
    let a = c.args.attribute.now in
    let id = text_tokens (codes "AttributeId") c.as_str.result.now in
    let named = text_tokens (codes "DataType") c.uri.result.now in
    let issuer = optional_tokens (codes "Issuer") (option_map json.string a.issuer) in
    let values = tokens_of (values_written c.values.result.now) in
    rw (attribute_tokens a, ← c.as_str.ensures, ← c.datatype.ensures, ← c.uri.ensures, ← c.values.ensures.value)
    (ends _ _ _ _ (token.begin_object ∷ []) _ c.in_ok-begin_object.ensures.ok
    (ends _ _ _ _ id _ c.in_ok-write_text.ensures
    (ends _ _ _ _ named _ c.in_ok-write_text-2.ensures
    (ends _ _ _ _ issuer _ c.in_ok-write_optional.ensures
    (ends _ _ _ _ (token.key (codes "Value") ∷ []) _ c.in_ok-key.ensures.ok
    (ends _ _ _ _ values _ c.in_ok-write_values.ensures c.end_object.ensures.ok))))))
