use Rattle.std.proofs.Common.{List, Some, [], codes, map, ◌∷◌}
use Rattle.std.specs.Prelude.{option_map}
use Rattle.json.specs.Token as token
use Rattle.ent_finder.specs.Finding.{resolved}
use Rattle.ent_finder.specs.Slots.{held}
use Rattle.ent_json.specs.Text.{tokens_of}
use Rattle.ent_polform.proofs.TextLemmas.{ends, object_tokens}
use Rattle.ent_polform.specs.Written.{reference_written}
use Rattle.ent_polform.specs.proofs_only.Texts.{Part}
use Rattle.ent_telling.specs.Facts.{found_data, or_null}
use Rattle.ent_telling.proofs.facts.write_resolved.Goals as goal

pub returns : goal.returns
returns g c =
    let reference = c.args.reference.now in
    let members : List Part =
    (codes "found", Some (or_null (found_data c.args.whole) (resolved reference (map held (g.P.Policies.slots c.args.policies.now)))))
    ∷ (codes "reference", Some (reference_written reference)) ∷ [] in
    rw (object_tokens members, ← c.resolve.ensures)
    (ends _ _ _ _ (token.begin_object ∷ []) _ c.in_ok-begin_object.ensures.ok
    (ends _ _ _ _ (token.key (codes "found") ∷ []) _ c.in_ok-key.ensures.ok
    (ends _ _ _ _ (tokens_of (or_null (found_data c.args.whole) (option_map (λ r. (r.0, r.1.now)) c.resolve.result))) _ c.in_ok-write_found.ensures
    (ends _ _ _ _ (token.key (codes "reference") ∷ []) _ c.in_ok-key-2.ensures.ok
    (ends _ _ _ _ (tokens_of (reference_written reference)) _ c.in_ok-write_reference_text.ensures c.end_object.ensures.ok)))))
