use Rattle.std.proofs.Common.{◌≡◌, ◌∙◌, true, ap, sym}
use Rattle.ent_eval.specs.LooksOf.{held_by}
use Rattle.ent_table.specs.Names.{is_listed, triple_of}
use Rattle.ent_report.specs.Desk.{Desked}
use Rattle.ent_line.proofs.ExplainedLemmas.{cell_said}
use Rattle.ent_line.proofs.service.Service.explain_cell.Goals as goal

pub returns-clause-reply : goal.returns-clause-reply
returns-clause-reply g c =
    let s = c.self.inside.desk.world.state in
    let who = triple_of c.args.person.now c.args.action.now c.args.resource.now in
    let there : is_listed s.names who ≡ true = ap (λ (d : Desked). is_listed d.world.state.names who) c.self.view_is
    ∙ sym c.are_listed.ensures ∙ c.if-not-are_listed.false in
    let world = ap (λ (d : Desked). d.world) c.in_ok-explained.ensures.rest in
    let held : held_by c.pdp-pdp.result.now ≡ s.held =
    c.pdp-pdp.ensures.held ∙ ap (λ v. v.state.held) c.review.ensures ∙ ap (λ w. w.state.held) world in
    let told = cell_said c.args.whole s c.in_ok-request.request _ _ _ _ _ who there c.in_ok-request.ensures
    c.in_ok-explained.ensures.answer c.in_ok-explained.ensures.causes c.in_ok-explained.ensures.reads held
    c.in_ok-text.ensures in
    rw (← c.self.view_is) (λ i. (told i, world i))
