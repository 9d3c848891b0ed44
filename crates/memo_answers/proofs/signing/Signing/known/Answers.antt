use Rattle.std.proofs.Common.{arith, length, refl}
use Rattle.std.specs.Prelude.{IfSome}
use Rattle.std.proofs.lemmas.Option.{slice_get_read}
use Rattle.memo_bags.proofs.Growing.{if_ok}
use Rattle.memo_plan.specs.Plan.{task_came}
use Rattle.memo_tests.specs.Tested.{ComesTo}
use Rattle.memo_answers.specs.proofs_only.Signing.{TellsAt, request_of, scene_of}
use Rattle.memo_answers.proofs.Follow.{follows_found, is_there, known_there, tells_known}
use Rattle.memo_answers.proofs.signing.Signing.known.Goals as goal

pub index-requires : goal.index-requires
index-requires g c = omega (arith, is_there g.L.LookUps.looks c.args.self.now c.args.place c.requires.0 c.requires.1, c.args.self.now.tests.list.ok.0)

pub known-requires-clause-ready : goal.known-requires-clause-ready
known-requires-clause-ready g c =
    let known = c.requires.1.0.known in
    record { are = known.findings; at = record { person = known.person; action = known.action; resource = known.resource } }

pub known-requires-clause-asks : goal.known-requires-clause-asks
known-requires-clause-asks g c =
    let s = c.args.self.now in
    let tests = s.tests.list.items in
    let test = c.index.result.now in
    (known_there g.L.LookUps.looks s c.args.place c.requires.0 test c.requires.1
    (slice_get_read tests (length tests) c.args.place test refl (is_there g.L.LookUps.looks s c.args.place c.requires.0 c.requires.1) c.index.ensures)).asks

pub returns-clause-comes : goal.returns-clause-comes
returns-clause-comes g c = λ t has.
    let looks = g.L.LookUps.looks in
    let s = c.args.self.now in
    let tests = s.tests.list.items in
    let test = c.index.result.now in
    if_ok c.known.result (λ o. IfSome o (ComesTo (looks s.held.now) s.questions s.findings.bags (request_of s) test)) (λ o. IfSome o (λ n. TellsAt s c.args.place n (task_came t (scene_of looks s))))
    (λ o comes. tells_known looks s c.args.place t test o has (slice_get_read tests (length tests) c.args.place test refl (is_there looks s c.args.place t has) c.index.ensures) comes) c.known.ensures.comes

pub returns-clause-follows : goal.returns-clause-follows
returns-clause-follows g c =
    let ready = c.known.ensures.keeps.ready in
    follows_found g.L.LookUps.looks c.args.self.now c.known.new.findings c.known.ensures.keeps.begins ready.are ready.at.person ready.at.action ready.at.resource
