use Rattle.std.proofs.Common.{List, Some, [], codes, option_map, ◌∷◌}
use Rattle.json.specs.Token as token
use Rattle.serde_json.specs.Data as json
use Rattle.ent_polform.proofs.TextLemmas.{ends, object_tokens}
use Rattle.ent_json.specs.proofs_only.Keyed.{optional_tokens}
use Rattle.ent_polform.specs.proofs_only.Texts.{Part}
use Rattle.ent_polform.specs.Written.{advice_written, effect_word, expression_written, obligations_written, rule_written, target_written}
use Rattle.ent_polform.proofs.text_documents.write_rule.Goals as goal

pub returns : goal.returns
unfolding rule_written
returns c =
    let r = c.args.rule.now in
    let members : List Part =
    (codes "AdviceExpressions", advice_written r.given)
    ∷ (codes "Condition", option_map expression_written r.condition)
    ∷ (codes "Effect", Some (json.string (effect_word r.effect)))
    ∷ (codes "ObligationExpressions", obligations_written r.given) ∷ (codes "RuleId", Some (json.string r.id))
    ∷ (codes "Target", target_written r.target) ∷ [] in
    rw (object_tokens members, ← c.effect_word.ensures, ← c.as_str.ensures)
    (ends _ _ _ _ (token.begin_object ∷ []) _ c.in_ok-begin_object.ensures.ok
    (ends _ _ _ _ (optional_tokens (codes "AdviceExpressions") (advice_written r.given)) _ c.in_ok-write_advice.ensures
    (ends _ _ _ _ (optional_tokens (codes "Condition") (option_map expression_written r.condition)) _ c.in_ok-write_condition.ensures
    (ends _ _ _ _ (token.key (codes "Effect") ∷ token.string c.effect_word.result.now ∷ []) _ c.in_ok-write_text.ensures
    (ends _ _ _ _ (optional_tokens (codes "ObligationExpressions") (obligations_written r.given)) _ c.in_ok-write_obligations.ensures
    (ends _ _ _ _ (token.key (codes "RuleId") ∷ token.string c.as_str.result.now ∷ []) _ c.in_ok-write_text-2.ensures
    (ends _ _ _ _ (optional_tokens (codes "Target") (target_written r.target)) _ c.in_ok-write_target.ensures c.end_object.ensures.ok)))))))
