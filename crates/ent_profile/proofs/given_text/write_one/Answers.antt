use Rattle.std.proofs.Common.{[], ◌∷◌, codes, map}
use Rattle.json.specs.Token as token
use Rattle.ent_json.specs.proofs_only.Text.{items_tokens_of}
use Rattle.ent_profile.specs.Response.{assignment_written}
use Rattle.ent_profile.proofs.TextLemmas.{ends}
use Rattle.ent_profile.proofs.TokenLemmas.{given_tokens, text_tokens}
use Rattle.ent_profile.proofs.given_text.write_one.Goals as goal

pub returns : goal.returns
returns c =
    let assignments = items_tokens_of (map assignment_written c.as_slice.result.now) in
    let id = text_tokens (codes "Id") c.as_str.result.now in
    rw (given_tokens c.args.given.now, ← c.as_slice.ensures, ← c.as_str.ensures)
    (ends _ _ _ _ (token.begin_object ∷ []) _ c.in_ok-begin_object.ensures.ok
    (ends _ _ _ _ (token.key (codes "AttributeAssignment") ∷ []) _ c.in_ok-key.ensures.ok
    (ends _ _ _ _ (token.begin_array ∷ []) _ c.in_ok-begin_array.ensures.ok
    (ends _ _ _ _ assignments _ c.in_ok-write_assignments.ensures
    (ends _ _ _ _ id _ c.in_ok-write_text.ensures c.end_object.ensures.ok)))))
