use Rattle.std.proofs.Common.{subst, sym}
use Rattle.memo_bags.specs.proofs_only.Ready.{request_of}
use Rattle.memo_plan.specs.Heard.{came}
use Rattle.memo_answers.specs.Known.{TellsIn}
use Rattle.memo_answers.specs.Told.{Signs}
use Rattle.ent_evaluator.proofs.TestsKept.{came_signed, root_signed}
use Rattle.ent_evaluator.proofs.tests.PlanTests.joined.Goals as goal

pub join-requires-clause-root : goal.join-requires-clause-root
join-requires-clause-root g c =
    let scene = c.args.scene.now in
    root_signed (g.L.LookUps.looks scene.held.now) scene.questions.now (request_of scene) c.args.self.now c.in-Some.plan c.in-Some.is c.requires.signed

pub join-requires-clause-signed : goal.join-requires-clause-signed
join-requires-clause-signed g c =
    let scene = c.args.scene.now in
    let looks = g.L.LookUps.looks scene.held.now in
    let questions = scene.questions.now in
    let tests = c.args.self.now in
    let comes = came looks (request_of scene) in
    subst (λ es. Signs es (TellsIn questions c.as_slice-in-Some.result.now) c.as_slice-in-Some-2.result.now comes) (sym c.as_slice.ensures)
    (subst (λ ts. Signs c.in-Some.plan.entries (TellsIn questions ts) c.as_slice-in-Some-2.result.now comes) (sym c.as_slice-in-Some.ensures.value)
    (subst (λ ns. Signs c.in-Some.plan.entries (TellsIn questions tests.learnt.list.items) ns comes) (sym c.as_slice-in-Some-2.ensures.value)
    (came_signed looks questions c.requires.tests.0 (request_of scene) tests c.in-Some.plan c.in-Some.is c.requires.tests.1 c.requires.signed)))
