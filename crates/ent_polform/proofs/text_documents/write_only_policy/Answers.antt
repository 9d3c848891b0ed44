use Rattle.std.proofs.Common.{[], codes, ◌∷◌}
use Rattle.json.specs.Token as token
use Rattle.ent_json.specs.Text.{tokens_of}
use Rattle.ent_polform.proofs.TextLemmas.{ends}
use Rattle.ent_polform.specs.Written.{policy_written}
use Rattle.ent_polform.proofs.text_documents.write_only_policy.Goals as goal

pub returns : goal.returns
returns c =
    (ends _ _ _ _ (token.begin_object ∷ []) _ c.in_ok-begin_object.ensures.ok
    (ends _ _ _ _ (token.key (codes "Policy") ∷ []) _ c.in_ok-key.ensures.ok
    (ends _ _ _ _ (tokens_of (policy_written c.args.policy.now)) _ c.in_ok-write_policy.ensures c.end_object.ensures.ok)))
