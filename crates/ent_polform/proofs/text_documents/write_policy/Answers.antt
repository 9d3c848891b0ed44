use Rattle.std.proofs.Common.{List, Some, [], codes, map, ◌∷◌}
use Rattle.json.specs.Token as token
use Rattle.serde_json.specs.Data as json
use Rattle.ent_combine.specs.Identifiers.{rule_id_of}
use Rattle.ent_json.specs.Members.{filled_list}
use Rattle.ent_polform.proofs.TextLemmas.{ends, object_tokens}
use Rattle.ent_json.specs.proofs_only.Keyed.{optional_tokens}
use Rattle.ent_polform.specs.proofs_only.Texts.{Part}
use Rattle.ent_polform.specs.Written.{advice_written, definition_written, obligations_written, policy_written, rule_written, target_written}
use Rattle.ent_policy.specs.Versions.{version_text}
use Rattle.ent_polform.proofs.text_documents.write_policy.Goals as goal

pub returns : goal.returns
unfolding policy_written
returns c =
    let p = c.args.policy.now in
    let members : List Part =
    (codes "AdviceExpressions", advice_written p.given)
    ∷ (codes "ObligationExpressions", obligations_written p.given) ∷ (codes "PolicyId", Some (json.string p.id))
    ∷ (codes "Rule", filled_list (map rule_written p.rules))
    ∷ (codes "RuleCombiningAlgId", Some (json.string (rule_id_of p.algorithm)))
    ∷ (codes "Target", target_written p.target)
    ∷ (codes "VariableDefinition", filled_list (map definition_written p.variables))
    ∷ (codes "Version", Some (json.string (version_text p.version))) ∷ [] in
    rw (
      object_tokens members,
      ← c.as_str.ensures,
      ← c.as_slice.ensures,
      ← c.rule_id.ensures,
      ← c.as_slice-2.ensures,
      ← c.in_ok-version.ensures,
      ← c.as_str-2.ensures,
    )
    (ends _ _ _ _ (token.begin_object ∷ []) _ c.in_ok-begin_object.ensures.ok
    (ends _ _ _ _ (optional_tokens (codes "AdviceExpressions") (advice_written p.given)) _ c.in_ok-write_advice.ensures
    (ends _ _ _ _ (optional_tokens (codes "ObligationExpressions") (obligations_written p.given)) _ c.in_ok-write_obligations.ensures
    (ends _ _ _ _ (token.key (codes "PolicyId") ∷ token.string c.as_str.result.now ∷ []) _ c.in_ok-write_text.ensures
    (ends _ _ _ _ (optional_tokens (codes "Rule") (filled_list (map rule_written c.as_slice.result.now))) _ c.in_ok-write_rules.ensures
    (ends _ _ _ _ (token.key (codes "RuleCombiningAlgId") ∷ token.string c.rule_id.result.now ∷ []) _ c.in_ok-write_text-2.ensures
    (ends _ _ _ _ (optional_tokens (codes "Target") (target_written p.target)) _ c.in_ok-write_target.ensures
    (ends _ _ _ _ (optional_tokens (codes "VariableDefinition") (filled_list (map definition_written c.as_slice-2.result.now))) _ c.in_ok-write_definitions.ensures
    (ends _ _ _ _ (token.key (codes "Version") ∷ token.string c.as_str-2.result.now ∷ []) _ c.in_ok-write_text-3.ensures c.end_object.ensures.ok)))))))))
