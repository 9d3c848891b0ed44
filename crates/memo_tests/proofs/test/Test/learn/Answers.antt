use Rattle.std.proofs.Common.{◌≡◌, Some, refl, slice_get, subst, sym}
use Rattle.ent_request.specs.Questions.{AreNumbers}
use Rattle.memo_bags.specs.proofs_only.Ready.{Begins, TellsAttributes, request_of}
use Rattle.memo_bags.proofs.Growing.{starts_itself}
use Rattle.memo_tests.specs.proofs_only.Leading.{LeadsTo}
use Rattle.memo_tests.proofs.Telling.{learns_found, learns_nothing}
use Rattle.memo_tests.proofs.test.Test.learn.Goals as goal

pub findings_of-requires-clause-within : goal.findings_of-requires-clause-within
findings_of-requires-clause-within g c = subst (AreNumbers c.args.scene.now.questions.now) (sym c.as_slice.ensures) c.requires.within

pub returns-in_err-found-clause-begins : goal.returns-in_err-found-clause-begins
returns-in_err-found-clause-begins g c = starts_itself c.args.self.now.outcomes.items c.args.self.now.outcomes.items refl

pub returns-in_err-found-clause-learns : goal.returns-in_err-found-clause-learns
returns-in_err-found-clause-learns g c =
    let outcomes = c.args.self.now.outcomes.items in
    learns_nothing (g.L.LookUps.looks c.args.scene.now.held.now) c.args.scene.now.questions.now c.args.findings.now.bags c.findings_of.new.findings.bags (request_of c.args.scene.now)
    c.args.outcome c.args.self.now c.args.self.now c.in_err-found.ensures.keeps.begins (starts_itself outcomes outcomes refl) refl

pub returns-in_err-number-clause-learns : goal.returns-in_err-number-clause-learns
returns-in_err-number-clause-learns g c =
    learns_nothing (g.L.LookUps.looks c.args.scene.now.held.now) c.args.scene.now.questions.now c.args.findings.now.bags c.findings_of.new.findings.bags (request_of c.args.scene.now)
    c.args.outcome c.args.self.now c.number_of.new.self c.in_ok-found.ensures.keeps.begins c.in_err-number.ensures.begins c.in_err-number.ensures.tree

pub returns-in_err-lead-clause-begins : goal.returns-in_err-lead-clause-begins
returns-in_err-lead-clause-begins g c = subst (λ os. Begins os c.args.self.now.outcomes.items) (sym c.in_err-lead.ensures.outcomes) c.in_ok-number.ensures.begins

pub returns-in_err-lead-clause-learns : goal.returns-in_err-lead-clause-learns
returns-in_err-lead-clause-learns g c =
    let looks = g.L.LookUps.looks c.args.scene.now.held.now in
    let questions = c.args.scene.now.questions.now in
    let new = c.findings_of.new.findings.bags in
    let request = request_of c.args.scene.now in
    let n = c.in_ok-number.number in
    let attributes : TellsAttributes looks questions new request c.args.outcome.asked c.in_ok-found.found =
    subst (λ ns. TellsAttributes looks questions new request ns c.in_ok-found.found) c.as_slice.ensures c.in_ok-found.ensures.attributes in
    let leads : LeadsTo c.in_ok-found.found n c.number_of.new.self c.lead.new.self =
    subst (λ fs. LeadsTo fs n c.number_of.new.self c.lead.new.self) c.as_slice-2.ensures c.in_err-lead.ensures.leads in
    learns_found looks questions c.args.findings.now.bags new request c.args.outcome c.args.self.now c.number_of.new.self c.lead.new.self c.in_ok-found.found n c.in_ok-found.ensures.keeps.begins
    c.in_ok-number.ensures.begins c.in_ok-number.ensures.tree c.in_ok-number.ensures.there c.requires.within c.in_ok-found.ensures.are attributes leads

pub returns-clause-there : goal.returns-clause-there
returns-clause-there g c =
    subst (λ os. slice_get os c.in_ok-number.number ≡ Some c.args.outcome) (sym c.in_ok-lead.ensures.outcomes) c.in_ok-number.ensures.there

pub returns-clause-begins : goal.returns-clause-begins
returns-clause-begins g c = subst (λ os. Begins os c.args.self.now.outcomes.items) (sym c.in_ok-lead.ensures.outcomes) c.in_ok-number.ensures.begins

pub returns-clause-learns : goal.returns-clause-learns
returns-clause-learns g c =
    let looks = g.L.LookUps.looks c.args.scene.now.held.now in
    let questions = c.args.scene.now.questions.now in
    let new = c.findings_of.new.findings.bags in
    let request = request_of c.args.scene.now in
    let n = c.in_ok-number.number in
    let attributes : TellsAttributes looks questions new request c.args.outcome.asked c.in_ok-found.found =
    subst (λ ns. TellsAttributes looks questions new request ns c.in_ok-found.found) c.as_slice.ensures c.in_ok-found.ensures.attributes in
    let leads : LeadsTo c.in_ok-found.found n c.number_of.new.self c.lead.new.self =
    subst (λ fs. LeadsTo fs n c.number_of.new.self c.lead.new.self) c.as_slice-2.ensures c.in_ok-lead.ensures.leads in
    learns_found looks questions c.args.findings.now.bags new request c.args.outcome c.args.self.now c.number_of.new.self c.lead.new.self c.in_ok-found.found n c.in_ok-found.ensures.keeps.begins
    c.in_ok-number.ensures.begins c.in_ok-number.ensures.tree c.in_ok-number.ensures.there c.requires.within c.in_ok-found.ensures.are attributes leads
