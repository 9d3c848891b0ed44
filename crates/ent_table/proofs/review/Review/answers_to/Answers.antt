use Rattle.std.proofs.Common.{◌≡◌, ◌+◌, ◌*◌, length, drop, ap, ◌∙◌}
use Rattle.ent_table.specs.Parts.{answers_to, column}
use Rattle.ent_table.specs.Fresh.{state_of}
use Rattle.ent_table.specs.Reviewed.{Reviewed}
use Rattle.ent_table.specs.State.{answer_to, table_of}
use Rattle.ent_table.proofs.Kept.{fresh_answers}
use Rattle.ent_table.proofs.Parted.{answers_by_place, no_answers_action, no_answers_resource}
use Rattle.ent_table.proofs.review.Review.answers_to.Goals as goal

pub returns-in_default : goal.returns-in_default
returns-in_default g c =
    let names = c.self.inside.parts.table.names in
    let f = answer_to (state_of c.self.inside.parts) in
    c.new.ensures ∙ no_answers_action f names.people names.actions names.resources c.args.action.now c.args.resource.now c.in_default.ensures.at
    ∙ ap (λ (r : Reviewed). answers_to c.args.action.now c.args.resource.now (table_of r.state)) c.self.view_is

pub returns-in_default-place_in : goal.returns-in_default-place_in
returns-in_default-place_in g c =
    let names = c.self.inside.parts.table.names in
    let f = answer_to (state_of c.self.inside.parts) in
    c.new-in_default-place_in.ensures
    ∙ no_answers_resource f names.people names.actions names.resources c.args.action.now c.args.resource.now c.in_default-place_in.ensures.at
    ∙ ap (λ (r : Reviewed). answers_to c.args.action.now c.args.resource.now (table_of r.state)) c.self.view_is

pub returns : goal.returns
returns g c =
    let parts = c.self.inside.parts in
    let names = parts.table.names in
    let f = answer_to (state_of parts) in
    let stride : c.blocks-columns.result.width ≡ length names.actions * length names.resources = ap (λ b. b.width) c.blocks-columns.ensures.blocks in
    let depths : c.blocks-columns.result.each ≡ length names.resources = ap (λ b. b.each) c.blocks-columns.ensures.blocks in
    let one : c.blocks-depths.result.each ≡ 1 = ap (λ b. b.each) c.blocks-depths.ensures.blocks in
    c.new-2.ensures
    ∙ (λ i. column (stride i) (c.names.ensures.names i) (drop (c.in-Some.column * depths i + c.in-Some-place_in.depth * one i) (fresh_answers (state_of parts) parts.table.cells.kept c.self.invariant.cells i)))
    ∙ answers_by_place f names.people names.actions names.resources c.args.action.now c.args.resource.now c.in-Some.column c.in-Some-place_in.depth
    c.blocks-columns.ensures.distinct c.blocks-depths.ensures.distinct c.in-Some.ensures.at c.in-Some-place_in.ensures.at
    ∙ ap (λ (r : Reviewed). answers_to c.args.action.now c.args.resource.now (table_of r.state)) c.self.view_is
