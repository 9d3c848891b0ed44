use Rattle.std.proofs.Common.{◌≡◌, true, sym, ap, ◌∙◌}
use Rattle.std.specs.Prelude.{◌&&◌, if◌then◌else◌, Ok, Err}
use Rattle.ent_table.specs.Names.{has_name}
use Rattle.ent_table.specs.State.{table_of}
use Rattle.ent_report.specs.proofs_only.Permitted.{permitted_people}
use Rattle.ent_report.specs.Desk.{Desked}
use Rattle.ent_report.specs.Reports.{who, who_in}
use Rattle.ent_report.specs.declared.fault.ReportFault.TheVariants.{NotThere}
use Rattle.ent_report.proofs.Permits.{who_of}
use Rattle.ent_report.proofs.desk.Desk.who.Goals as goal

pub returns : goal.returns
returns g c =
    let s = c.self.inside.review.state in
    let action = c.args.action.now in
    let resource = c.args.resource.now in
    let one : has_name action s.names.actions ≡ true = sym c.listed.ensures ∙ c.if-not-listed.false in
    let other : has_name resource s.names.resources ≡ true = sym c.listed-else-not-listed.ensures ∙ c.if-not-listed-2.false in
    let found : who_in action resource (table_of s) ≡ c.in_ok-who_in.field-0 =
    sym (c.in_ok-who_in.ensures ∙ ap permitted_people c.answers_to.ensures ∙ who_of action resource (table_of s)) in
    ap (λ (v : Desked). who v.world.state action resource) (sym c.self.view_is)
    ∙ (λ i. if one i && other i then Ok (found i) else Err NotThere)
