use Rattle.std.proofs.Common.{sym, ap, ◌∙◌}
use Rattle.ent_report.specs.Desk.{Desked}
use Rattle.ent_report.specs.Serials.{mark_serials}
use Rattle.ent_report.proofs.Desks.{serials_back}
use Rattle.ent_report.proofs.desk.Desk.marks.Goals as goal

pub returns : goal.returns
returns g c =
    let d = c.self.inside in
    sym (serials_back d.review d.marks) ∙ ap (λ (v : Desked). mark_serials v.world) c.self.view_is
