use Rattle.std.proofs.Common.{◌≡◌, ◌∙◌, [], ◌∷◌, ap, codes, length, map}
use Rattle.json.specs.Token as token
use Rattle.ent_request.specs.Held.{Held}
use Rattle.ent_finder.specs.Slots.{document_count, held as held_in}
use Rattle.ent_json.specs.Text.{tokens_of}
use Rattle.ent_table.specs.State.{table_of}
use Rattle.ent_line.specs.Listed.{limit_data, limits_data}
use Rattle.ent_line.proofs.ListedLemmas.{limits_tokens}
use Rattle.ent_line.proofs.StandingLemmas.{said}
use Rattle.ent_line.proofs.TextLemmas.{ends}
use Rattle.ent_line.proofs.listed.write_limits.Goals as goal

pub returns : goal.returns
returns g c =
    let s = c.args.review.now.state in
    let limits = c.limits-limits.result in
    let actions : length c.names-actions.result.now ≡ length s.names.actions = ap length c.names-actions.ensures in
    let people : length c.names-people.result.now ≡ length s.names.people = ap length c.names-people.ensures in
    let resources : length c.names-resources.result.now ≡ length s.names.resources = ap length c.names-resources.ensures in
    let documents : c.in_ok-documents.documents ≡ document_count s.held.modules =
    c.in_ok-documents.ensures ∙ ap (λ p. document_count (map held_in p)) c.policies.ensures
    ∙ ap (λ (h : Held). document_count h.modules) c.pdp.ensures.held in
    let whole : limits_tokens limits (length c.names-actions.result.now) c.cell_count.result c.in_ok-documents.documents
    (length c.names-people.result.now) (length c.names-resources.result.now) ≡ tokens_of (limits_data s) =
    λ i. limits_tokens (c.limits-limits.ensures i) (actions i) (c.cell_count.ensures i) (documents i) (people i) (resources i) in
    said _ _ _ _ _ whole
    (ends _ _ _ _ (token.begin_object ∷ []) _ c.in_ok-begin_object.ensures.ok
    (ends _ _ _ _ (token.key (codes "actions") ∷ tokens_of (limit_data limits.actions (length c.names-actions.result.now))) _ c.in_ok-write_limit.ensures
    (ends _ _ _ _ (token.key (codes "cells") ∷ tokens_of (limit_data limits.cells c.cell_count.result)) _ c.in_ok-write_limit-2.ensures
    (ends _ _ _ _ (token.key (codes "documents") ∷ tokens_of (limit_data limits.documents c.in_ok-documents.documents)) _ c.in_ok-write_limit-3.ensures
    (ends _ _ _ _ (token.key (codes "people") ∷ tokens_of (limit_data limits.people (length c.names-people.result.now))) _ c.in_ok-write_limit-4.ensures
    (ends _ _ _ _ (token.key (codes "resources") ∷ tokens_of (limit_data limits.resources (length c.names-resources.result.now))) _ c.in_ok-write_limit-5.ensures
    c.end_object.ensures.ok))))))
