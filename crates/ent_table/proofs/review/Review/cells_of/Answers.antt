use Rattle.std.proofs.Common.{◌≡◌, ◌*◌, List, ℕ, [], ◌∷◌, length, drop, get_or, rules, string_bytes, ap, ◌∙◌}
use Rattle.std.specs.Prelude.{slice_get}
use Rattle.std.specs.List.{zip}
use Rattle.ent_table.specs.Names.{all_triples, texts}
use Rattle.ent_table.specs.Fresh.{state_of}
use Rattle.ent_table.specs.Parts.{cells_of}
use Rattle.ent_table.specs.Reviewed.{Reviewed}
use Rattle.ent_table.specs.State.{answer_to, table_of}
use Rattle.ent_table.proofs.Kept.{fresh_answers}
use Rattle.ent_table.proofs.Parted.{cells_by_place, no_cells, text_there}
use Rattle.ent_table.proofs.review.Review.cells_of.Goals as goal

pub returns-in-None : goal.returns-in-None
returns-in-None g c =
    let names = c.self.inside.parts.table.names in
    let f = answer_to (state_of c.self.inside.parts) in
    c.new.ensures ∙ no_cells f names.people names.actions names.resources c.args.person.now c.in-None.ensures.at
    ∙ ap (λ (r : Reviewed). cells_of c.args.person.now (table_of r.state)) c.self.view_is

pub returns-in-Some : goal.returns-in-Some
returns-in-Some g c =
    let parts = c.self.inside.parts in
    let s = state_of parts in
    let names = parts.table.names in
    let f = answer_to s in
    let people : texts c.names-people.result.now ≡ names.people = c.names-people.ensures.names in
    let actions : texts c.names-actions.result.now ≡ names.actions = c.names-actions.ensures.names in
    let resources : texts c.names-resources.result.now ≡ names.resources = c.names-resources.ensures.names in
    let each : c.blocks-blocks.result.each ≡ length names.actions * length names.resources = ap (λ b. b.each) c.blocks-blocks.ensures.blocks in
    let at = ap (λ (l : List (List ℕ)). slice_get l c.in-Some.row) people ∙ c.in-Some.ensures.at in
    let same : c.index-people-row.result ≡ get_or c.names-people.result.now c.in-Some.row c.index-people-row.result = search rules in
    let one : texts c.from_ref.result.now ≡ c.args.person.now ∷ [] = ap texts c.from_ref.ensures.value
    ∙ ap (λ n. n ∷ []) (ap string_bytes same ∙ text_there c.names-people.result.now c.in-Some.row c.index-people-row.result c.args.person.now at) in
    c.new-in-Some.ensures
    ∙ (λ i. zip (all_triples (one i) (actions i) (resources i)) (drop (c.in-Some.row * each i) (fresh_answers s parts.table.cells.kept c.self.invariant.cells i)))
    ∙ cells_by_place f names.people names.actions names.resources c.args.person.now c.in-Some.row c.blocks-blocks.ensures.distinct c.in-Some.ensures.at
    ∙ ap (λ (r : Reviewed). cells_of c.args.person.now (table_of r.state)) c.self.view_is
