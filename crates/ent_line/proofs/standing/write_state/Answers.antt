use Rattle.std.proofs.Common.{◌≡◌, ◌∙◌, [], ◌∷◌, ap, codes, decimal, length, map}
use Rattle.json.specs.Token as token
use Rattle.ent_eval.specs.LooksOf.{held_by}
use Rattle.ent_request.specs.Held.{Held}
use Rattle.ent_finder.specs.Rows.{filled_source}
use Rattle.ent_finder.specs.Slots.{document_count, held as held_in}
use Rattle.ent_json.specs.Text.{tokens_of}
use Rattle.ent_json.specs.proofs_only.Text.{items_tokens_of}
use Rattle.ent_dump.specs.Edits.{written_root}
use Rattle.ent_report.specs.Desk.{review_of}
use Rattle.ent_table.specs.State.{table_of}
use Rattle.ent_line.specs.Standing.{environment_data, mark_data, marked_sessions, state_data}
use Rattle.ent_line.specs.proofs_only.Standing.{marked_from, row_count}
use Rattle.ent_line.proofs.StandingLemmas.{said, same_sessions, state_tokens}
use Rattle.ent_line.proofs.TextLemmas.{ends}
use Rattle.ent_line.proofs.standing.write_state.Goals as goal

pub returns : goal.returns
returns g c =
    let world = c.args.desk.now.world in
    let s = world.state in
    let review : c.review-review.result.now ≡ review_of c.args.desk.now = c.review-review.ensures in
    let held : held_by c.pdp-pdp.result.now ≡ s.held =
    c.pdp-pdp.ensures.held ∙ ap (λ v. v.state.held) review in
    let actions : length c.names-actions.result.now ≡ length s.names.actions =
    ap length c.names-actions.ensures ∙ ap (λ v. length v.state.names.actions) review in
    let people : length c.names-people.result.now ≡ length s.names.people =
    ap length c.names-people.ensures ∙ ap (λ v. length v.state.names.people) review in
    let resources : length c.names-resources.result.now ≡ length s.names.resources =
    ap length c.names-resources.ensures ∙ ap (λ v. length v.state.names.resources) review in
    let cells : c.cell_count.result ≡ length (table_of s) =
    c.cell_count.ensures ∙ ap (λ v. length (table_of v.state)) review in
    let documents : c.in_ok-documents.documents ≡ document_count s.held.modules =
    c.in_ok-documents.ensures ∙ ap (λ p. document_count (map held_in p)) c.policies.ensures
    ∙ ap (λ (h : Held). document_count h.modules) held in
    let rows : c.in_ok-rows.rows ≡ row_count s.held.sources =
    c.in_ok-rows.ensures ∙ ap (λ a. row_count (map filled_source a)) c.attributes.ensures
    ∙ ap (λ (h : Held). row_count h.sources) held in
    let environment : c.environment.result ≡ s.held.environment =
    c.environment.ensures ∙ ap (λ (h : Held). h.environment) held in
    let root : c.root.result.now ≡ s.held.root = c.root.ensures ∙ ap (λ (h : Held). h.root) held in
    let sessions : marked_from 0 c.marks.result.now ≡ marked_sessions world.marks = ap (marked_from 0) c.marks.ensures ∙ same_sessions world.marks in
    let serial : c.serial.result ≡ s.serial = c.serial.ensures.value ∙ ap (λ v. v.state.serial) review in
    let whole : state_tokens (length c.names-actions.result.now) c.cell_count.result c.in_ok-documents.documents c.environment.result (marked_from 0 c.marks.result.now)
    (length c.names-people.result.now) (length c.names-resources.result.now) c.root.result.now c.in_ok-rows.rows c.serial.result
    ≡ tokens_of (state_data world) =
    λ i. state_tokens (actions i) (cells i) (documents i) (environment i) (sessions i) (people i) (resources i) (root i) (rows i) (serial i) in
    said _ _ _ _ _ whole
    (ends _ _ _ _ (token.begin_object ∷ token.key (codes "actions") ∷ token.number (decimal (length c.names-actions.result.now))
    ∷ token.key (codes "cells") ∷ token.number (decimal c.cell_count.result)
    ∷ token.key (codes "documents") ∷ token.number (decimal c.in_ok-documents.documents) ∷ []) _ c.in_ok-write_front.ensures
    (ends _ _ _ _ (token.key (codes "environment") ∷ []) _ c.in_ok-key.ensures.ok
    (ends _ _ _ _ (tokens_of (environment_data c.environment.result)) _ c.in_ok-write_environment.ensures
    (ends _ _ _ _ (token.key (codes "marks") ∷ []) _ c.in_ok-key-2.ensures.ok
    (ends _ _ _ _ (token.begin_array ∷ []) _ c.in_ok-begin_array.ensures.ok
    (ends _ _ _ _ (items_tokens_of (map mark_data (marked_from 0 c.marks.result.now))) _ c.in_ok-write_marks.ensures
    (ends _ _ _ _ (token.key (codes "people") ∷ token.number (decimal (length c.names-people.result.now))
    ∷ token.key (codes "resources") ∷ token.number (decimal (length c.names-resources.result.now))
    ∷ token.key (codes "root") ∷ tokens_of (written_root c.root.result.now)) _ c.in_ok-write_listed.ensures c.write_end.ensures)))))))
