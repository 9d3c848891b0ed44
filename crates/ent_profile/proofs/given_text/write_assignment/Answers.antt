use Rattle.std.proofs.Common.{[], ◌∷◌, codes, option_map}
use Rattle.json.specs.Token as token
use Rattle.serde_json.specs.Data as json
use Rattle.ent_json.specs.Text.{tokens_of}
use Rattle.ent_polform.specs.Written.{value_written}
use Rattle.ent_json.specs.proofs_only.Keyed.{optional_tokens}
use Rattle.ent_profile.proofs.TextLemmas.{ends}
use Rattle.ent_profile.proofs.TokenLemmas.{assignment_tokens, text_tokens}
use Rattle.ent_profile.proofs.given_text.write_assignment.Goals as goal

pub returns : goal.returns
returns c =
    let a = c.args.assignment.now in
    let id = text_tokens (codes "AttributeId") c.as_str.result.now in
    let category = optional_tokens (codes "Category") (option_map json.string a.category) in
    let named = text_tokens (codes "DataType") c.uri.result.now in
    let issuer = optional_tokens (codes "Issuer") (option_map json.string a.issuer) in
    let value = tokens_of (value_written a.value) in
    rw (assignment_tokens a, ← c.as_str.ensures, ← c.datatype.ensures, ← c.uri.ensures)
    (ends _ _ _ _ (token.begin_object ∷ []) _ c.in_ok-begin_object.ensures.ok
    (ends _ _ _ _ id _ c.in_ok-write_text.ensures
    (ends _ _ _ _ category _ c.in_ok-write_optional.ensures
    (ends _ _ _ _ named _ c.in_ok-write_text-2.ensures
    (ends _ _ _ _ issuer _ c.in_ok-write_optional-2.ensures
    (ends _ _ _ _ (token.key (codes "Value") ∷ []) _ c.in_ok-key.ensures.ok
    (ends _ _ _ _ value _ c.in_ok-write_value_text.ensures c.end_object.ensures.ok)))))))
