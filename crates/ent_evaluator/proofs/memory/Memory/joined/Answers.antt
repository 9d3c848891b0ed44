use Rattle.std.proofs.Common.{subst, sym}
use Rattle.std.specs.Prelude.{IfSome}
use Rattle.memo_bags.specs.proofs_only.Ready.{request_of}
use Rattle.memo_replay.specs.Joined.{IsJoined}
use Rattle.ent_evaluator.specs.Tests.{AreTests, IsSigned}
use Rattle.ent_evaluator.proofs.Remembering.{remembers_tests}
use Rattle.ent_evaluator.proofs.TestsKept.{signed_counted, tests_counted}
use Rattle.ent_evaluator.proofs.memory.Memory.joined.Goals as goal

pub joined-requires-clause-tests : goal.joined-requires-clause-tests
joined-requires-clause-tests g c = (c.args.self.now.findings.bags, c.requires.remembers.tests)

pub returns-in_err-joined-clause-remembers : goal.returns-in_err-joined-clause-remembers
returns-in_err-joined-clause-remembers g c =
    let scene = c.args.scene.now in
    let looks = g.L.LookUps.looks scene.held.now in
    remembers_tests looks scene.questions.now c.args.self.now c.joined.new.self
    (subst (AreTests looks scene.questions.now c.args.self.now.findings.bags) (sym c.in_err-joined.ensures.same) c.requires.remembers.tests) c.requires.remembers

pub returns-in_err-joined-clause-signed : goal.returns-in_err-joined-clause-signed
returns-in_err-joined-clause-signed g c =
    let scene = c.args.scene.now in
    subst (IsSigned (g.L.LookUps.looks scene.held.now) scene.questions.now (request_of scene)) (sym c.in_err-joined.ensures.same) c.requires.signed

pub returns-in-None-clause-remembers : goal.returns-in-None-clause-remembers
returns-in-None-clause-remembers g c =
    let scene = c.args.scene.now in
    let looks = g.L.LookUps.looks scene.held.now in
    remembers_tests looks scene.questions.now c.args.self.now c.joined.new.self
    (subst (AreTests looks scene.questions.now c.args.self.now.findings.bags) (sym c.in_ok-joined.ensures.same) c.requires.remembers.tests) c.requires.remembers

pub returns-in-None-clause-signed : goal.returns-in-None-clause-signed
returns-in-None-clause-signed g c =
    let scene = c.args.scene.now in
    subst (IsSigned (g.L.LookUps.looks scene.held.now) scene.questions.now (request_of scene)) (sym c.in_ok-joined.ensures.same) c.requires.signed

pub returns-in_err-evaluated-in-Some-clause-remembers : goal.returns-in_err-evaluated-in-Some-clause-remembers
returns-in_err-evaluated-in-Some-clause-remembers g c =
    let scene = c.args.scene.now in
    let looks = g.L.LookUps.looks scene.held.now in
    let bags = c.args.self.now.findings.bags in
    remembers_tests looks scene.questions.now c.args.self.now c.count_hit.new.self
    (tests_counted looks scene.questions.now bags c.joined.new.self c.count_hit.new.self c.count_hit.ensures
    (subst (AreTests looks scene.questions.now bags) (sym c.in_ok-joined.ensures.same) c.requires.remembers.tests)) c.requires.remembers

pub returns-in_ok-evaluated-in-Some-clause-remembers : goal.returns-in_ok-evaluated-in-Some-clause-remembers
returns-in_ok-evaluated-in-Some-clause-remembers g c =
    let scene = c.args.scene.now in
    let looks = g.L.LookUps.looks scene.held.now in
    let bags = c.args.self.now.findings.bags in
    remembers_tests looks scene.questions.now c.args.self.now c.count_hit.new.self
    (tests_counted looks scene.questions.now bags c.joined.new.self c.count_hit.new.self c.count_hit.ensures
    (subst (AreTests looks scene.questions.now bags) (sym c.in_ok-joined.ensures.same) c.requires.remembers.tests)) c.requires.remembers

pub returns-in_err-evaluated-in-Some-clause-signed : goal.returns-in_err-evaluated-in-Some-clause-signed
returns-in_err-evaluated-in-Some-clause-signed g c =
    let scene = c.args.scene.now in
    let looks = g.L.LookUps.looks scene.held.now in
    signed_counted looks scene.questions.now (request_of scene) c.joined.new.self c.count_hit.new.self c.count_hit.ensures
    (subst (IsSigned looks scene.questions.now (request_of scene)) (sym c.in_ok-joined.ensures.same) c.requires.signed)

pub returns-in_ok-evaluated-in-Some-clause-signed : goal.returns-in_ok-evaluated-in-Some-clause-signed
returns-in_ok-evaluated-in-Some-clause-signed g c =
    let scene = c.args.scene.now in
    let looks = g.L.LookUps.looks scene.held.now in
    signed_counted looks scene.questions.now (request_of scene) c.joined.new.self c.count_hit.new.self c.count_hit.ensures
    (subst (IsSigned looks scene.questions.now (request_of scene)) (sym c.in_ok-joined.ensures.same) c.requires.signed)

pub returns-in_ok-evaluated-in-Some-clause-evaluated : goal.returns-in_ok-evaluated-in-Some-clause-evaluated
returns-in_ok-evaluated-in-Some-clause-evaluated g c =
    let scene = c.args.scene.now in
    let looks = g.L.LookUps.looks scene.held.now in
    c.in_ok-evaluated-in-Some.ensures looks scene.questions.now (request_of scene)
    (subst (λ o. IfSome o (IsJoined looks (request_of scene) scene.questions.now)) c.in-Some.is c.in_ok-joined.ensures.joined)
