use Rattle.std.proofs.Common.{refl, subst}
use Rattle.std.specs.Prelude.{IfNone, IfSome}
use Rattle.ent_evaluator.specs.Memory.{Gives, HasCaseIn}
use Rattle.ent_evaluator.specs.proofs_only.Remembered.{NoneFits}
use Rattle.memo_bags.specs.proofs_only.Ready.{request_of}
use Rattle.memo_bags.proofs.FoundAll.{keeps_then}
use Rattle.memo_bags.proofs.Growing.{starts_itself}
use Rattle.ent_evaluator.proofs.Remembering.{shelf_more}
use Rattle.ent_evaluator.proofs.Shelved.{has_latest, none_older, some_older}
use Rattle.ent_evaluator.proofs.cases.Cases.recall.Goals as goal

pub recall-requires-in-None-clause-shelf : goal.recall-requires-in-None-clause-shelf
recall-requires-in-None-clause-shelf g c =
    let questions = c.args.scene.now.questions.now in
    shelf_more (g.L.LookUps.looks c.args.scene.now.held.now) questions questions c.args.findings.now.bags c.recall.new.findings.bags (starts_itself questions questions refl) c.in_ok-recall.ensures.keeps.begins
    c.args.self.now.older c.requires.shelves.older

pub returns-in-None-clause-some : goal.returns-in-None-clause-some
returns-in-None-clause-some g c =
    some_older c.recall-in-None.result (g.L.LookUps.looks c.args.scene.now.held.now) c.args.scene.now.questions.now (request_of c.args.scene.now) c.args.self.now c.recall-in-None.new.findings.bags
    c.recall-in-None.ensures.some

pub returns-in-None-clause-none : goal.returns-in-None-clause-none
returns-in-None-clause-none g c =
    let looks = g.L.LookUps.looks c.args.scene.now.held.now in
    let questions = c.args.scene.now.questions.now in
    let request = request_of c.args.scene.now in
    none_older c.recall-in-None.result looks questions request c.args.self.now c.args.findings.now.bags c.recall.new.findings.bags c.in_ok-recall.ensures.keeps.begins
    (subst (λ o. IfNone o (NoneFits looks questions c.args.findings.now.bags request c.args.self.now.latest.cases.items)) c.in-None.is c.in_ok-recall.ensures.none) c.recall-in-None.ensures.none

pub returns-in-None-clause-keeps : goal.returns-in-None-clause-keeps
returns-in-None-clause-keeps g c =
    keeps_then (g.L.LookUps.looks c.args.scene.now.held.now) c.args.scene.now c.args.findings.now c.recall.new.findings c.recall-in-None.new.findings c.in_ok-recall.ensures.keeps c.recall-in-None.ensures.keeps

pub returns-in-Some-clause-some : goal.returns-in-Some-clause-some
returns-in-Some-clause-some g c =
    let looks = g.L.LookUps.looks c.args.scene.now.held.now in
    let questions = c.args.scene.now.questions.now in
    let request = request_of c.args.scene.now in
    has_latest looks questions c.recall.new.findings.bags request c.args.self.now (Gives c.in-Some.evaluation)
    (subst (λ o. IfSome o (λ e. HasCaseIn looks questions c.recall.new.findings.bags request c.args.self.now.latest.cases.items (Gives e))) c.in-Some.is c.in_ok-recall.ensures.some)
