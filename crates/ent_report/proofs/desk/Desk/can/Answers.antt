use Rattle.std.proofs.Common.{◌≡◌, true, sym, ap, ◌∙◌}
use Rattle.std.specs.Prelude.{if◌then◌else◌, Ok, Err}
use Rattle.ent_table.specs.Names.{has_name}
use Rattle.ent_table.specs.State.{table_of}
use Rattle.ent_report.specs.proofs_only.Permitted.{permitted}
use Rattle.ent_report.specs.Desk.{Desked}
use Rattle.ent_report.specs.Reports.{can, can_in}
use Rattle.ent_report.specs.declared.fault.ReportFault.TheVariants.{NotThere}
use Rattle.ent_report.proofs.Permits.{can_of}
use Rattle.ent_report.proofs.desk.Desk.can.Goals as goal

pub returns : goal.returns
returns g c =
    let s = c.self.inside.review.state in
    let person = c.args.person.now in
    let there : has_name person s.names.people ≡ true = sym c.listed.ensures ∙ c.if-not-listed.false in
    let found : can_in person (table_of s) ≡ c.in_ok-can_in.field-0 = sym (c.in_ok-can_in.ensures ∙ ap permitted c.cells_of.ensures ∙ can_of person (table_of s)) in
    ap (λ (v : Desked). can v.world.state person) (sym c.self.view_is)
    ∙ (λ i. if there i then Ok (found i) else Err NotThere)
