use Rattle.std.proofs.Common.{◌≡◌, ◌∙◌, ap, subst, sym}
use Rattle.ent_eval.specs.Point.{Point}
use Rattle.ent_table.specs.State.{State}
use Rattle.ent_table.specs.Tables.{IsFreshAtSerial}
use Rattle.ent_report.specs.Desk.{review_of}
use Rattle.ent_report.specs.World.{unmarked}
use Rattle.ent_line.specs.World.{counted_of}
use Rattle.ent_line.proofs.KnownLemmas as known
use Rattle.cli_serve.specs.proofs_only.Begun.{begun}
use Rattle.cli_serve.proofs.Starting.{started}
use Rattle.cli_serve.proofs.running.serve_over.Goals as goal

pub returns : goal.returns
returns g c =
    let sources = g.A.Attributes.sources c.args.attributes in
    let slots = g.P.Policies.slots c.args.policies in
    let pdp = c.new-pdp in
    let review = c.new-review in
    let desk = c.new in
    let w = begun c.args.limits sources slots in
    let state : review.result.state ≡ w.state = review.ensures.state
    ∙ started sources slots pdp.result c.args.limits pdp.ensures in
    let world : desk.result.world ≡ w =
    desk.ensures.world ∙ ap (λ (s : State). record { state = s; marks = unmarked }) state in
    let none : desk.result.evaluations ≡ 0 = desk.ensures.evaluations ∙ review.ensures.counted ∙ ap (λ (p : Point). p.evaluations) pdp.ensures in
    let from : desk.result.past.from ≡ 0 = ap (λ p. p.from) desk.ensures.past ∙ review.ensures.from in
    let same : review_of desk.result ≡ review.result = λ t. record {
      state = (desk.ensures.world t).state;
      past = desk.ensures.past t;
      evaluations = desk.ensures.evaluations t;
    } in
    let fresh = subst IsFreshAtSerial (sym same) review.ensures.now in
    let start = ap counted_of c.new-service.ensures ∙ known.begun desk.result w fresh world none from in
    (_, rw start at c.serve_review.ensures.headline)
