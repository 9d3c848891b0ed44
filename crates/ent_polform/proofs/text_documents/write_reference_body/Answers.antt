use Rattle.std.proofs.Common.{List, Some, [], codes, option_map, ◌∷◌}
use Rattle.json.specs.Token as token
use Rattle.serde_json.specs.Data as json
use Rattle.ent_polform.proofs.TextLemmas.{ends, object_tokens}
use Rattle.ent_json.specs.proofs_only.Keyed.{optional_tokens}
use Rattle.ent_polform.specs.proofs_only.Texts.{Part}
use Rattle.ent_polform.specs.Written.{pattern_written}
use Rattle.ent_polform.proofs.text_documents.write_reference_body.Goals as goal

pub returns : goal.returns
returns c =
    let r = c.args.reference.now in
    let members : List Part =
    (codes "EarliestVersion", option_map pattern_written r.constraints.earliest)
    ∷ (codes "Id", Some (json.string r.id))
    ∷ (codes "LatestVersion", option_map pattern_written r.constraints.latest)
    ∷ (codes "Version", option_map pattern_written r.constraints.version) ∷ [] in
    rw (object_tokens members, ← c.as_str.ensures.value)
    (ends _ _ _ _ (token.begin_object ∷ []) _ c.in_ok-begin_object.ensures.ok
    (ends _ _ _ _ (optional_tokens (codes "EarliestVersion") (option_map pattern_written r.constraints.earliest)) _ c.in_ok-write_pattern.ensures
    (ends _ _ _ _ (token.key (codes "Id") ∷ token.string c.as_str.result.now ∷ []) _ c.in_ok-write_text.ensures
    (ends _ _ _ _ (optional_tokens (codes "LatestVersion") (option_map pattern_written r.constraints.latest)) _ c.in_ok-write_pattern-2.ensures
    (ends _ _ _ _ (optional_tokens (codes "Version") (option_map pattern_written r.constraints.version)) _ c.in_ok-write_pattern-3.ensures c.end_object.ensures.ok)))))
