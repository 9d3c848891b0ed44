use Rattle.std.proofs.Common.{refl, sym, ap, subst, ◌∙◌}
use Rattle.ent_evaluator.specs.declared.case.Case.{Case}
use Rattle.ent_evaluator.specs.Memory.{IsCase, Remembers}
use Rattle.ent_request.specs.Questions.{AreNumbers, at_numbers}
use Rattle.memo_bags.specs.proofs_only.Ready.{Begins, TellsAttributes, request_of}
use Rattle.ent_evaluator.proofs.Fitting.{is_case, recalls}
use Rattle.memo_bags.proofs.Growing.{starts_itself, starts_then}
use Rattle.ent_evaluator.proofs.memory.Memory.keep.Goals as goal

pub returns-in_err-turn_to-clause-remembers : goal.returns-in_err-turn_to-clause-remembers
returns-in_err-turn_to-clause-remembers g c =
    let looks = g.L.LookUps.looks c.args.scene.now.held.now in
    let questions = c.args.scene.now.questions.now in
    recalls looks questions c.args.self.now c.turn_to.new.self c.args.self.now.cases _ c.requires.remembers (c.in_err-turn_to.ensures.kept looks questions c.requires.remembers.findings)
    (starts_itself c.args.self.now.findings.bags c.turn_to.new.self.bags c.in_err-turn_to.ensures.bags) refl refl

pub findings_of-requires-clause-ready : goal.findings_of-requires-clause-ready
findings_of-requires-clause-ready g c = record {
  are = c.in_ok-turn_to.ensures.kept (g.L.LookUps.looks c.args.scene.now.held.now) c.args.scene.now.questions.now c.requires.remembers.findings;
  at = c.in_ok-turn_to.ensures.at;
}

pub returns-in_err-found-clause-remembers : goal.returns-in_err-found-clause-remembers
returns-in_err-found-clause-remembers g c =
    let begins : Begins c.findings_of.new.findings.bags c.args.self.now.findings.bags = starts_then c.args.self.now.findings.bags c.turn_to.new.self.bags c.findings_of.new.findings.bags
    (starts_itself c.args.self.now.findings.bags c.turn_to.new.self.bags c.in_ok-turn_to.ensures.bags) c.in_err-found.ensures.keeps.begins in
    recalls (g.L.LookUps.looks c.args.scene.now.held.now) c.args.scene.now.questions.now c.args.self.now c.findings_of.new.findings c.args.self.now.cases _ c.requires.remembers c.in_err-found.ensures.keeps.ready.are begins refl refl

pub returns-in_err-copy-clause-remembers : goal.returns-in_err-copy-clause-remembers
returns-in_err-copy-clause-remembers g c =
    let begins : Begins c.findings_of.new.findings.bags c.args.self.now.findings.bags = starts_then c.args.self.now.findings.bags c.turn_to.new.self.bags c.findings_of.new.findings.bags
    (starts_itself c.args.self.now.findings.bags c.turn_to.new.self.bags c.in_ok-turn_to.ensures.bags) c.in_ok-found.ensures.keeps.begins in
    recalls (g.L.LookUps.looks c.args.scene.now.held.now) c.args.scene.now.questions.now c.args.self.now c.findings_of.new.findings c.args.self.now.cases _ c.requires.remembers c.in_ok-found.ensures.keeps.ready.are begins refl refl

pub returns-in_err-copy-2-clause-remembers : goal.returns-in_err-copy-2-clause-remembers
returns-in_err-copy-2-clause-remembers g c =
    let begins : Begins c.findings_of.new.findings.bags c.args.self.now.findings.bags = starts_then c.args.self.now.findings.bags c.turn_to.new.self.bags c.findings_of.new.findings.bags
    (starts_itself c.args.self.now.findings.bags c.turn_to.new.self.bags c.in_ok-turn_to.ensures.bags) c.in_ok-found.ensures.keeps.begins in
    recalls (g.L.LookUps.looks c.args.scene.now.held.now) c.args.scene.now.questions.now c.args.self.now c.findings_of.new.findings c.args.self.now.cases _ c.requires.remembers c.in_ok-found.ensures.keeps.ready.are begins refl refl

pub returns-clause-remembers : goal.returns-clause-remembers
returns-clause-remembers g c =
    let looks = g.L.LookUps.looks c.args.scene.now.held.now in
    let questions = c.args.scene.now.questions.now in
    let scene = c.args.scene.now in
    let bags = c.findings_of.new.findings.bags in
    let begins : Begins bags c.args.self.now.findings.bags = starts_then c.args.self.now.findings.bags c.turn_to.new.self.bags bags
    (starts_itself c.args.self.now.findings.bags c.turn_to.new.self.bags c.in_ok-turn_to.ensures.bags) c.in_ok-found.ensures.keeps.begins in
    let before : Remembers looks questions (record { findings = c.findings_of.new.findings; cases = c.args.self.now.cases; front = c.args.self.now.front; tests = c.args.self.now.tests }) =
    recalls looks questions c.args.self.now c.findings_of.new.findings c.args.self.now.cases _ c.requires.remembers c.in_ok-found.ensures.keeps.ready.are begins refl refl in
    let case : Case = record { found = c.in_ok-found.found; asked = c.in_ok-copy.field-0; answer = c.in_ok-copy-2.field-0; failed = c.args.evaluation.now.failed } in
    let tells : TellsAttributes looks questions bags (request_of scene) case.asked case.found =
    subst (λ ns. TellsAttributes looks questions bags (request_of scene) ns case.found) (c.as_slice-asked.ensures ∙ c.get.ensures ∙ sym c.in_ok-copy.ensures) c.in_ok-found.ensures.attributes in
    let is : IsCase looks questions bags case =
    is_case looks scene bags case c.in_ok-found.ensures.are (subst (AreNumbers questions) (sym c.in_ok-copy.ensures) c.requires.evaluated.within) (c.in_ok-copy-2.ensures ∙ c.requires.evaluated.answer)
    (ap (at_numbers questions) c.in_ok-copy.ensures ∙ c.requires.evaluated.asked) c.requires.evaluated.failed tells in
    record { findings = before.findings; cases = c.put.ensures.shelves looks questions bags is before.cases; tests = before.tests }
