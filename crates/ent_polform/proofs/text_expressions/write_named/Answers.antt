use Rattle.std.proofs.Common.{[], codes, ◌∷◌}
use Rattle.json.specs.Token as token
use Rattle.ent_json.specs.Text.{tokens_of}
use Rattle.ent_polform.proofs.TextLemmas.{ends}
use Rattle.ent_polform.specs.Written.{designator_written}
use Rattle.ent_polform.proofs.text_expressions.write_named.Goals as goal

pub returns : goal.returns
returns c =
    (ends _ _ _ _ (token.begin_object ∷ []) _ c.in_ok-begin_object.ensures.ok
    (ends _ _ _ _ (token.key (codes "AttributeDesignator") ∷ []) _ c.in_ok-key.ensures.ok
    (ends _ _ _ _ (tokens_of (designator_written c.args.named.now)) _ c.in_ok-write_designator.ensures c.end_object.ensures.ok)))
