use Rattle.std.proofs.Common.{List, Some, [], codes, map, ◌∷◌}
use Rattle.json.specs.Token as token
use Rattle.serde_json.specs.Data as json
use Rattle.ent_json.specs.Members.{filled_list}
use Rattle.ent_polform.proofs.TextLemmas.{advice_members, ends, object_tokens}
use Rattle.ent_json.specs.proofs_only.Keyed.{optional_tokens}
use Rattle.ent_polform.specs.proofs_only.Texts.{Part}
use Rattle.ent_polform.specs.Written.{assignment_written, effect_word, given_written}
use Rattle.ent_polform.proofs.text_given.write_one_advice.Goals as goal

pub returns : goal.returns
unfolding given_written
returns c =
    let g = c.args.given.now in
    let assignments = filled_list (map assignment_written g.assignments) in
    let members : List Part =
    (codes "AdviceId", Some (json.string g.id)) ∷ (codes "AppliesTo", Some (json.string (effect_word g.effect)))
    ∷ (codes "AttributeAssignmentExpression", assignments) ∷ [] in
    rw (
      advice_members (json.string g.id) (json.string (effect_word g.effect)) assignments,
      object_tokens members,
      ← c.as_slice.ensures,
      ← c.as_str.ensures,
      ← c.effect_word.ensures,
    )
    (ends _ _ _ _ (token.begin_object ∷ []) _ c.in_ok-begin_object.ensures.ok
    (ends _ _ _ _ (token.key (codes "AdviceId") ∷ token.string c.as_str.result.now ∷ []) _ c.in_ok-write_text.ensures
    (ends _ _ _ _ (token.key (codes "AppliesTo") ∷ token.string c.effect_word.result.now ∷ []) _ c.in_ok-write_text-2.ensures
    (ends _ _ _ _ (optional_tokens (codes "AttributeAssignmentExpression") (filled_list (map assignment_written c.as_slice.result.now))) _ c.in_ok-write_assignments.ensures c.end_object.ensures.ok))))
