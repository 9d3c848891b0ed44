use Rattle.std.proofs.Common.{Option, Some, None, ℕ, refl}
use Rattle.std.specs.Prelude.{IfSome, List}
use Rattle.ent_values.specs.Bags.{Contents}
use Rattle.ent_request.specs.Listed.{listed}
use Rattle.ent_request.specs.Looks.{Looks}
use Rattle.ent_request.specs.declared.question.Question.{Question}
use Rattle.memo_bags.specs.proofs_only.Led.{TellsEnd}
use Rattle.memo_bags.specs.proofs_only.Ready.{Begins, request_of}
use Rattle.memo_bags.proofs.Growing.{if_ok}
use Rattle.memo_tests.specs.declared.test.Test.{Test}
use Rattle.memo_tests.specs.Tested.{ComesTo}
use Rattle.memo_tests.proofs.Telling.{comes_to}
use Rattle.memo_tests.proofs.test.Test.known.Goals as goal

known_by : (looks : Looks) (questions : List Question) (old new : List Contents) (x : Test) (person action resource : List ℕ) (o : Option ℕ) → Begins new old
    → TellsEnd looks questions old new (listed person action resource) x.tree.nodes.items o → IfSome o (ComesTo looks questions old (listed person action resource) x)
known_by looks questions old new x person action resource None begins tells = tt
known_by looks questions old new x person action resource (Some n) begins tells = comes_to looks questions old new x person action resource (Some n) n refl begins tells

pub returns-clause-comes : goal.returns-clause-comes
returns-clause-comes g c =
    let looks = g.L.LookUps.looks c.args.scene.now.held.now in
    let scene = c.args.scene.now in
    let questions = scene.questions.now in
    let old = c.args.findings.now.bags in
    let new = c.seek.new.findings.bags in
    let x = c.args.self.now in
    if_ok c.seek.result (TellsEnd looks questions old new (request_of scene) x.tree.nodes.items) (λ o. IfSome o (ComesTo looks questions old (request_of scene) x))
    (λ o tells. known_by looks questions old new x scene.person.now scene.action.now scene.resource.now o c.seek.ensures.keeps.begins tells) c.seek.ensures.tells
