use Rattle.std.proofs.Common.{List, Some, [], codes, map, ◌∷◌}
use Rattle.json.specs.Token as token
use Rattle.serde_json.specs.Data as json
use Rattle.ent_combine.specs.Identifiers.{policy_id_of}
use Rattle.ent_json.specs.Members.{filled_list}
use Rattle.ent_json.specs.Text.{tokens_of}
use Rattle.ent_polform.proofs.TextLemmas.{ends, object_tokens}
use Rattle.ent_json.specs.proofs_only.Keyed.{optional_tokens}
use Rattle.ent_polform.specs.proofs_only.Texts.{Part}
use Rattle.ent_polform.specs.Written.{advice_written, child_written, obligations_written, target_written}
use Rattle.ent_polform.specs.proofs_only.Written.{set_written}
use Rattle.ent_policy.specs.Versions.{version_text}
use Rattle.ent_polform.proofs.text_documents.+child.Goals as goal

pub write_set-returns : goal.write_set-returns
unfolding set_written
write_set-returns t c =
    let s = c.args.set.now in
    let members : List Part =
    (codes "AdviceExpressions", advice_written s.given)
    ∷ (codes "Children", filled_list (map child_written s.children))
    ∷ (codes "ObligationExpressions", obligations_written s.given)
    ∷ (codes "PolicyCombiningAlgId", Some (json.string (policy_id_of s.algorithm)))
    ∷ (codes "PolicySetId", Some (json.string s.id)) ∷ (codes "Target", target_written s.target)
    ∷ (codes "Version", Some (json.string (version_text s.version))) ∷ [] in
    rw (
      object_tokens members,
      ← c.as_slice.ensures,
      ← c.id.ensures,
      ← c.as_str.ensures,
      ← c.in_ok-version.ensures,
      ← c.as_str-2.ensures,
    )
    (ends _ _ _ _ (token.begin_object ∷ []) _ c.in_ok-begin_object.ensures.ok
    (ends _ _ _ _ (optional_tokens (codes "AdviceExpressions") (advice_written s.given)) _ c.in_ok-write_advice.ensures
    (ends _ _ _ _ (optional_tokens (codes "Children") (filled_list (map child_written c.as_slice.result.now))) _ c.in_ok-write_children.ensures
    (ends _ _ _ _ (optional_tokens (codes "ObligationExpressions") (obligations_written s.given)) _ c.in_ok-write_obligations.ensures
    (ends _ _ _ _ (token.key (codes "PolicyCombiningAlgId") ∷ token.string c.id.result.now ∷ []) _ c.in_ok-write_text.ensures
    (ends _ _ _ _ (token.key (codes "PolicySetId") ∷ token.string c.as_str.result.now ∷ []) _ c.in_ok-write_text-2.ensures
    (ends _ _ _ _ (optional_tokens (codes "Target") (target_written s.target)) _ c.in_ok-write_target.ensures
    (ends _ _ _ _ (token.key (codes "Version") ∷ token.string c.as_str-2.result.now ∷ []) _ c.in_ok-write_text-3.ensures c.end_object.ensures.ok))))))))

pub write_only_set-returns : goal.write_only_set-returns
write_only_set-returns t c =
    (ends _ _ _ _ (token.begin_object ∷ []) _ c.in_ok-begin_object.ensures.ok
    (ends _ _ _ _ (token.key (codes "PolicySet") ∷ []) _ c.in_ok-key.ensures.ok
    (ends _ _ _ _ (tokens_of (set_written c.args.set.now)) _ c.in_ok-write_set.ensures c.end_object.ensures.ok)))
