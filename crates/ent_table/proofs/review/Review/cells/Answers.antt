use Rattle.std.proofs.Common.{drop, ap, ◌∙◌}
use Rattle.std.specs.List.{zip}
use Rattle.ent_table.specs.Names.{all_triples}
use Rattle.ent_table.specs.Fresh.{state_of}
use Rattle.ent_table.specs.Reviewed.{Reviewed}
use Rattle.ent_table.specs.State.{table_of}
use Rattle.ent_table.proofs.Kept.{fresh_answers}
use Rattle.ent_table.proofs.review.Review.cells.Goals as goal

pub returns : goal.returns
returns g c =
    let parts = c.self.inside.parts in
    let s = state_of parts in
    c.new.ensures
    ∙ (λ i. zip (all_triples (c.names.ensures.names i) (c.names-2.ensures.names i) (c.names-3.ensures.names i)) (drop 0 (fresh_answers s parts.table.cells.kept c.self.invariant.cells i)))
    ∙ ap (λ (r : Reviewed). table_of r.state) c.self.view_is
