use Rattle.std.proofs.Common.{◌≡◌, length, ap, ◌∙◌, arith}
use Rattle.std.proofs.lemmas.List.{length-map}
use Rattle.std.proofs.lemmas.Slice.Zip.{length-zip}
use Rattle.ent_cells.specs.Cell.{cell_of}
use Rattle.ent_request.specs.Held.{looks_in}
use Rattle.ent_table.specs.Names.{triples}
use Rattle.ent_table.specs.Fresh.{state_of}
use Rattle.ent_table.specs.Reviewed.{Reviewed}
use Rattle.ent_table.specs.State.{State, answer_to, fresh, table_of}
use Rattle.ent_table.proofs.review.Review.cell_count.Goals as goal

pub returns : goal.returns
returns g c =
    let s : State = state_of c.self.inside.parts in
    let counted : c.len.result ≡ length (triples s.names) = c.len.ensures ∙ ap length c.self.invariant.cells ∙ length-map (triples s.names) (cell_of (looks_in s.held)) in
    let long : c.len.result ≡ length (table_of s) = omega (arith, counted, length-zip (triples s.names) (fresh s), length-map (triples s.names) (answer_to s)) in
    long ∙ ap (λ (r : Reviewed). length (table_of r.state)) c.self.view_is
