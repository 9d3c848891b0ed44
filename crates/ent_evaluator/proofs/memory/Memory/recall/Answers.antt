use Rattle.std.proofs.Common.{refl, subst}
use Rattle.std.specs.Prelude.{IfNone}
use Rattle.ent_evaluator.specs.Memory.{cases_in}
use Rattle.memo_bags.specs.proofs_only.Ready.{Begins, request_of}
use Rattle.ent_evaluator.specs.proofs_only.Remembered.{NoneFits}
use Rattle.ent_evaluator.proofs.Fitting.{recalls}
use Rattle.memo_bags.proofs.Growing.{starts_itself, starts_then}
use Rattle.ent_evaluator.proofs.memory.Memory.recall.Goals as goal

pub returns-in_err-turn_to-clause-remembers : goal.returns-in_err-turn_to-clause-remembers
returns-in_err-turn_to-clause-remembers g c =
    let looks = g.L.LookUps.looks c.args.scene.now.held.now in
    let questions = c.args.scene.now.questions.now in
    recalls looks questions c.args.self.now c.turn_to.new.self c.args.self.now.cases c.tried.new.self c.requires (c.in_err-turn_to.ensures.kept looks questions c.requires.findings)
    (starts_itself c.args.self.now.findings.bags c.turn_to.new.self.bags c.in_err-turn_to.ensures.bags) refl refl

pub recall-requires-clause-ready : goal.recall-requires-clause-ready
recall-requires-clause-ready g c = record {
  are = c.in_ok-turn_to.ensures.kept (g.L.LookUps.looks c.args.scene.now.held.now) c.args.scene.now.questions.now c.requires.findings;
  at = c.in_ok-turn_to.ensures.at;
}

pub recall-requires-clause-shelves : goal.recall-requires-clause-shelves
recall-requires-clause-shelves g c =
    let looks = g.L.LookUps.looks c.args.scene.now.held.now in
    let questions = c.args.scene.now.questions.now in
    (recalls looks questions c.args.self.now c.turn_to.new.self c.args.self.now.cases c.tried.new.self c.requires (c.in_ok-turn_to.ensures.kept looks questions c.requires.findings)
    (starts_itself c.args.self.now.findings.bags c.turn_to.new.self.bags c.in_ok-turn_to.ensures.bags) refl refl).cases

pub returns-in_err-recall-clause-remembers : goal.returns-in_err-recall-clause-remembers
returns-in_err-recall-clause-remembers g c =
    let begins : Begins c.recall.new.findings.bags c.args.self.now.findings.bags = starts_then c.args.self.now.findings.bags c.turn_to.new.self.bags c.recall.new.findings.bags
    (starts_itself c.args.self.now.findings.bags c.turn_to.new.self.bags c.in_ok-turn_to.ensures.bags) c.in_err-recall.ensures.keeps.begins in
    recalls (g.L.LookUps.looks c.args.scene.now.held.now) c.args.scene.now.questions.now c.args.self.now c.recall.new.findings c.args.self.now.cases c.tried.new.self c.requires c.in_err-recall.ensures.keeps.ready.are begins refl refl

pub returns-in-None-clause-none : goal.returns-in-None-clause-none
returns-in-None-clause-none g c =
    let looks = g.L.LookUps.looks c.args.scene.now.held.now in
    let questions = c.args.scene.now.questions.now in
    let request = request_of c.args.scene.now in
    let none = subst (λ o. IfNone o (NoneFits looks questions c.turn_to.new.self.bags request (cases_in c.args.self.now.cases))) c.in-None.is c.in_ok-recall.ensures.none in
    subst (λ bags. NoneFits looks questions bags request (cases_in c.args.self.now.cases)) c.in_ok-turn_to.ensures.bags none

pub returns-in-None-clause-remembers : goal.returns-in-None-clause-remembers
returns-in-None-clause-remembers g c =
    let begins : Begins c.recall.new.findings.bags c.args.self.now.findings.bags = starts_then c.args.self.now.findings.bags c.turn_to.new.self.bags c.recall.new.findings.bags
    (starts_itself c.args.self.now.findings.bags c.turn_to.new.self.bags c.in_ok-turn_to.ensures.bags) c.in_ok-recall.ensures.keeps.begins in
    recalls (g.L.LookUps.looks c.args.scene.now.held.now) c.args.scene.now.questions.now c.args.self.now c.recall.new.findings c.args.self.now.cases c.tried.new.self c.requires c.in_ok-recall.ensures.keeps.ready.are begins refl refl

pub returns-in-Some-clause-remembers : goal.returns-in-Some-clause-remembers
returns-in-Some-clause-remembers g c =
    let begins : Begins c.recall.new.findings.bags c.args.self.now.findings.bags = starts_then c.args.self.now.findings.bags c.turn_to.new.self.bags c.recall.new.findings.bags
    (starts_itself c.args.self.now.findings.bags c.turn_to.new.self.bags c.in_ok-turn_to.ensures.bags) c.in_ok-recall.ensures.keeps.begins in
    recalls (g.L.LookUps.looks c.args.scene.now.held.now) c.args.scene.now.questions.now c.args.self.now c.recall.new.findings c.count_taken.new.self _ c.requires c.in_ok-recall.ensures.keeps.ready.are begins
    c.count_taken.ensures.older c.count_taken.ensures.latest
