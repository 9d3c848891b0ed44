use Rattle.std.proofs.Common.{[], ◌∷◌, codes}
use Rattle.json.specs.Token as token
use Rattle.ent_json.specs.Text.{tokens_of}
use Rattle.ent_polform.proofs.TextLemmas.{ends}
use Rattle.ent_polform.specs.Written.{reference_written}
use Rattle.ent_telling.specs.Facts.{or_null}
use Rattle.ent_telling.proofs.facts.write_root.Goals as goal

pub returns : goal.returns
returns c =
    ends _ _ _ _ (token.begin_object ∷ []) _ c.in_ok-begin_object.ensures.ok
    (ends _ _ _ _ (token.key (codes "root") ∷ []) _ c.in_ok-key.ensures.ok
    (ends _ _ _ _ (tokens_of (or_null reference_written c.args.root.now)) _ c.in_ok-write_reference.ensures c.end_object.ensures.ok))
