use Rattle.std.proofs.Common.{[], ◌∷◌}
use Rattle.json.specs.Token as token
use Rattle.ent_json.specs.Text.{tokens_of}
use Rattle.ent_polform.proofs.TextLemmas.{ends}
use Rattle.ent_polform.specs.Written.{value_written}
use Rattle.ent_telling.specs.Facts.{or_null}
use Rattle.ent_telling.proofs.facts.write_known.Goals as goal

pub returns : goal.returns
returns c =
    ends _ _ _ _ (token.begin_object ∷ []) _ c.in_ok-begin_object.ensures.ok
    (ends _ _ _ _ (token.key c.args.key.now ∷ []) _ c.in_ok-key.ensures.ok
    (ends _ _ _ _ (tokens_of (or_null value_written c.args.value)) _ c.in_ok-write_value.ensures c.end_object.ensures.ok))
