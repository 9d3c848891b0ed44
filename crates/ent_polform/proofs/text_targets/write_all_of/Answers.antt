use Rattle.std.proofs.Common.{[], codes, map, ◌∷◌}
use Rattle.json.specs.Token as token
use Rattle.ent_json.specs.proofs_only.Text.{items_tokens_of}
use Rattle.ent_polform.proofs.TextLemmas.{ends}
use Rattle.ent_polform.specs.Written.{all_of_written, match_written}
use Rattle.ent_polform.proofs.text_targets.write_all_of.Goals as goal

pub returns : goal.returns
unfolding all_of_written
returns c =
    rw (← c.as_slice.ensures)
    (ends _ _ _ _ (token.begin_object ∷ []) _ c.in_ok-begin_object.ensures.ok
    (ends _ _ _ _ (token.key (codes "Match") ∷ []) _ c.in_ok-key.ensures.ok
    (ends _ _ _ _ (token.begin_array ∷ []) _ c.in_ok-begin_array.ensures.ok
    (ends _ _ _ _ (items_tokens_of (map match_written c.as_slice.result.now)) _ c.in_ok-write_matches.ensures c.end_object.ensures.ok))))
