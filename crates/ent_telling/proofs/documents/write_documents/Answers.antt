use Rattle.std.proofs.Common.{◌≡◌, ◌∙◌, ◌++◌, [], ◌∷◌, ap, codes, map, sym}
use Rattle.std.specs.Prelude.{is_some}
use Rattle.std.specs.Option.{option_copied}
use Rattle.json.specs.Token as token
use Rattle.ent_eval.specs.LooksOf.{held_by}
use Rattle.ent_finder.specs.Slots.{held}
use Rattle.ent_json.specs.Text.{tokens_of}
use Rattle.ent_polform.proofs.TextLemmas.{ends}
use Rattle.lint_reach.specs.Reached.{has_place, is_reached}
use Rattle.lint_reach.specs.declared.place.DocPlace.{DocPlace}
use Rattle.ent_telling.specs.Documents.{document_data, documents, documents_data}
use Rattle.ent_telling.specs.proofs_only.Walk.{each_tokens}
use Rattle.ent_telling.proofs.Told.{reached_told, reply_tokens, said}
use Rattle.ent_telling.proofs.documents.write_documents.Goals as goal

pub returns : goal.returns
returns g c =
    let all = held_by c.args.pdp.now in
    let id = option_copied c.args.id in
    let places = c.in_ok-reached.reached in
    let same : (place : DocPlace) → has_place place places ≡ is_reached all.modules all.root place =
    λ place. c.in_ok-reached.ensures place ∙ (λ i. is_reached (map held (c.policies.ensures i)) (c.root.ensures i) place) in
    let told = map (document_data (λ p. has_place p places) (is_some id)) (documents id all.modules) in
    let whole : (token.begin_object ∷ token.key (codes "documents") ∷ token.begin_array ∷ []) ++ (each_tokens told ++ token.end_array ∷ token.end_object ∷ [])
    ≡ tokens_of (documents_data all id) =
    sym (reply_tokens (codes "documents") told) ∙ ap tokens_of (reached_told all id places same) in
    said _ _ _ _ _ whole
    (ends _ _ _ _ (token.begin_object ∷ token.key (codes "documents") ∷ token.begin_array ∷ []) _ c.in_ok-begin_list.ensures
    (ends _ _ _ _ (each_tokens told) _ (rw c.policies-2.ensures at c.in_ok-write_modules.ensures) c.end_list.ensures))
