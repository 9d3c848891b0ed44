use Rattle.std.proofs.Common.{[], codes, map, ◌∷◌}
use Rattle.json.specs.Token as token
use Rattle.ent_json.specs.proofs_only.Text.{items_tokens_of}
use Rattle.ent_polform.proofs.TextLemmas.{ends, only_tokens}
use Rattle.ent_polform.specs.Written.{any_of_written, target_written}
use Rattle.ent_polform.proofs.text_targets.write_target.Goals as goal

pub returns : goal.returns
unfolding target_written
returns c =
    rw (
      ← c.as_slice-any_of.ensures,
      only_tokens any_of_written (codes "Target") (codes "AnyOf") c.as_slice-any_of.result.now c.if-is_empty.ensures,
    )
    (ends _ _ _ _ (token.key (codes "Target") ∷ []) _ c.in_ok-key.ensures.ok
    (ends _ _ _ _ (token.begin_object ∷ []) _ c.in_ok-begin_object.ensures.ok
    (ends _ _ _ _ (token.key (codes "AnyOf") ∷ []) _ c.in_ok-key-2.ensures.ok
    (ends _ _ _ _ (token.begin_array ∷ []) _ c.in_ok-begin_array.ensures.ok
    (ends _ _ _ _ (items_tokens_of (map any_of_written c.as_slice-any_of.result.now)) _ c.in_ok-write_each_any_of.ensures c.end_object.ensures.ok)))))
