use Rattle.std.proofs.Common.{ap, ◌∙◌}
use Rattle.ent_cells.proofs.Orders.{requests-exact, requests-total}
use Rattle.ent_log.proofs.MapsBefore.{maps-are_left}
use Rattle.ent_table.specs.AnswerMap.{answers_of}
use Rattle.ent_table.specs.Fresh.{state_of}
use Rattle.ent_table.specs.Reviewed.{Reviewed}
use Rattle.ent_table.specs.Tables.{table_at_serial}
use Rattle.ent_table.proofs.review.Review.forget_before.Goals as goal

pub returns-clause-tables : goal.returns-clause-tables
returns-clause-tables g c =
    let parts = c.self.inside.parts in
    let s = state_of parts in
    λ n from le.
    maps-are_left requests-total requests-exact parts.log c.forget_before.new.self c.forget_before.ensures.kept
    (answers_of s) n from
    ∙ ap (λ (r : Reviewed). table_at_serial r n) c.self.view_is
