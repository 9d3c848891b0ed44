use Rattle.std.proofs.Common.{List, Some, None, if◌then◌else◌, sym, ap, ◌∙◌}
use Rattle.std.specs.Prelude.{slice_get}
use Rattle.std.specs.Option.{option_map}
use Rattle.std.proofs.lemmas.Option.{slice_get-map}
use Rattle.ent_request.specs.declared.answer.Answer.{Answer}
use Rattle.ent_table.specs.Names.{triple_of, triples}
use Rattle.ent_table.specs.Fresh.{state_of}
use Rattle.ent_table.specs.Reviewed.{Reviewed}
use Rattle.ent_table.specs.State.{answer_at, answer_to}
use Rattle.ent_table.proofs.Kept.{fresh_answers}
use Rattle.ent_table.proofs.review.Review.shared_answer.Goals as goal

pub returns : goal.returns
returns g c =
    let parts = c.self.inside.parts in
    let s = state_of parts in
    let x = triple_of c.args.person.now c.args.action.now c.args.resource.now in
    let place = c.in_ok-place.place in
    let at = c.in_ok-place.ensures in
    c.shared_answer.ensures.answer
    ∙ ap (λ (l : List Answer). slice_get l place) (fresh_answers s parts.table.cells.kept c.self.invariant.cells)
    ∙ slice_get-map (answer_to s) (triples s.names) place
    ∙ ap (option_map (answer_to s)) at.1
    ∙ sym (ap (λ b. if b then Some (answer_to s x) else None) at.0)
    ∙ ap (λ (r : Reviewed). answer_at r.state x) c.self.view_is
