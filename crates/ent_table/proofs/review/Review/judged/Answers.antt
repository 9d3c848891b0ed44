use Rattle.std.proofs.Common.{drop, sym, ap, ◌∙◌}
use Rattle.std.specs.List.{zip}
use Rattle.ent_table.specs.Failed.{has_failed, judged}
use Rattle.ent_table.specs.Names.{triples}
use Rattle.ent_table.specs.Fresh.{state_of}
use Rattle.ent_table.specs.Reviewed.{Reviewed}
use Rattle.ent_table.specs.State.{answer_to, table_of}
use Rattle.ent_table.proofs.Kept.{failures_fresh, judged_so}
use Rattle.ent_table.proofs.review.Review.judged.Goals as goal

pub returns : goal.returns
returns g c =
    let parts = c.self.inside.parts in
    let s = state_of parts in
    c.new.ensures
    ∙ (λ i. zip ((c.cells.ensures ∙ ap (λ (r : Reviewed). table_of r.state) (sym c.self.view_is)) i) (drop 0 (failures_fresh s parts.table.cells.kept c.self.invariant.cells i)))
    ∙ judged_so (answer_to s) (has_failed s) (triples s.names)
    ∙ ap (λ (r : Reviewed). judged r.state) c.self.view_is
