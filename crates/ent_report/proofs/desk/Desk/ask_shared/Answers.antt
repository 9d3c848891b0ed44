use Rattle.std.proofs.Common.{ap, ◌∙◌}
use Rattle.ent_cells.specs.Count.{raised}
use Rattle.ent_table.specs.Reviewed.{Reviewed}
use Rattle.ent_report.specs.Desk.{Desked, desk_of}
use Rattle.ent_report.proofs.desk.Desk.ask_shared.Goals as goal

pub returns-clause-rest : goal.returns-clause-rest
returns-clause-rest g c =
    let d = c.self.inside in
    ap (λ (r : Reviewed). desk_of r d.marks d.counts) c.ask_shared.ensures.rest
    ∙ ap (λ (v : Desked). record v { evaluations = raised v.evaluations 1 }) c.self.view_is
