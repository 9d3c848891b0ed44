use Rattle.std.proofs.Common.{◌≡◌, ◌∙◌, None, Some, [], ap, subst}
use Rattle.std.specs.Prelude.{IfSome}
use Rattle.std.specs.List.{flat_map}
use Rattle.ent_walk.specs.Answer.{answer, answer_part, asked, causes_told, recorded}
use Rattle.ent_eval.specs.LooksOf.{looks_of}
use Rattle.ent_request.specs.Causes.{named_first}
use Rattle.ent_eval.specs.Point.{Point}
use Rattle.ent_request.specs.Noted.{noted}
use Rattle.ent_request.specs.Sources.{keys_of}
use Rattle.ent_trace.specs.proofs_only.Noted.{asked_once}
use Rattle.ent_trace.proofs.KeysAsked.{asked_keys}
use Rattle.ent_trace.proofs.AtEnd.{told_causes, told_questions}
use Rattle.ent_eval.proofs.pdp.Pdp.explain.Goals as goal

pub returns-clause-answer : goal.returns-clause-answer
returns-clause-answer g c =
    let pdp = c.self.inside in
    let point : Point = record {
      sources = g.A.Attributes.sources pdp.attributes;
      slots = g.P.Policies.slots pdp.policies;
      root = pdp.root;
      environment = pdp.environment;
      evaluations = pdp.evaluations;
    } in
    let here : c.in_ok-answer.answer ≡ answer (looks_of point) c.args.request.now = c.in_ok-answer.ensures.answer in
    here ∙ ap (λ (p : Point). answer (looks_of p) c.args.request.now) c.self.view_is

pub returns-clause-reads : goal.returns-clause-reads
returns-clause-reads g c =
    let pdp = c.self.inside in
    let point : Point = record {
      sources = g.A.Attributes.sources pdp.attributes;
      slots = g.P.Policies.slots pdp.policies;
      root = pdp.root;
      environment = pdp.environment;
      evaluations = pdp.evaluations;
    } in
    let request = c.args.request.now in
    let questions = asked (looks_of point) request in
    let notes = (answer_part (looks_of point) c.args.request.now).notes in
    let is : c.answered.new.notes.questions ≡ Some (asked_once [] questions) = ap (λ n. n.questions) c.in_ok-answer.ensures.notes ∙ told_questions c.open-notes.result [] notes (ap (λ n. n.questions) c.open-notes.ensures) in
    let here : c.in_ok-reads.reads ≡ recorded (looks_of point) request =
    subst (λ n. IfSome n (λ qs. c.in_ok-reads.reads ≡ noted [] (flat_map (keys_of request) qs))) is c.in_ok-reads.ensures ∙ asked_keys request [] questions in
    here ∙ ap (λ (p : Point). recorded (looks_of p) request) c.self.view_is

pub returns-clause-causes : goal.returns-clause-causes
returns-clause-causes g c =
    let pdp = c.self.inside in
    let point : Point = record {
      sources = g.A.Attributes.sources pdp.attributes;
      slots = g.P.Policies.slots pdp.policies;
      root = pdp.root;
      environment = pdp.environment;
      evaluations = pdp.evaluations;
    } in
    let notes = (answer_part (looks_of point) c.args.request.now).notes in
    let is = ap (λ n. n.causes) c.in_ok-answer.ensures.notes ∙ told_causes c.open-notes.result (record { causes = []; named = None }) notes (ap (λ n. n.causes) c.open-notes.ensures) in
    let here : c.in_ok-causes.causes ≡ causes_told (looks_of point) c.args.request.now =
    subst (λ o. IfSome o (λ k. c.in_ok-causes.causes ≡ named_first k.told.named k.told.causes)) is c.in_ok-causes.ensures in
    here ∙ ap (λ (p : Point). causes_told (looks_of p) c.args.request.now) c.self.view_is
