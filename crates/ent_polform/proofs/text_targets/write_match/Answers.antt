use Rattle.std.proofs.Common.{[], codes, ◌∷◌}
use Rattle.json.specs.Token as token
use Rattle.ent_json.specs.Text.{tokens_of}
use Rattle.ent_polform.proofs.TextLemmas.{ends}
use Rattle.ent_polform.specs.Written.{designator_written, literal_written, match_written}
use Rattle.ent_polform.proofs.text_targets.write_match.Goals as goal

pub returns : goal.returns
unfolding match_written
returns c =
    let m = c.args.test.now in
    rw (← c.in_ok-id.ensures, ← c.as_str.ensures)
    (ends _ _ _ _ (token.begin_object ∷ []) _ c.in_ok-begin_object.ensures.ok
    (ends _ _ _ _ (token.key (codes "AttributeDesignator") ∷ []) _ c.in_ok-key.ensures.ok
    (ends _ _ _ _ (tokens_of (designator_written m.designator)) _ c.in_ok-write_designator.ensures
    (ends _ _ _ _ (token.key (codes "AttributeValue") ∷ []) _ c.in_ok-key-2.ensures.ok
    (ends _ _ _ _ (tokens_of (literal_written m.literal)) _ c.in_ok-write_literal.ensures
    (ends _ _ _ _ (token.key (codes "MatchId") ∷ token.string c.as_str.result.now ∷ []) _ c.in_ok-write_text.ensures c.end_object.ensures.ok))))))
