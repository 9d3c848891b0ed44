use Rattle.std.proofs.Common.{refl, subst, sym}
use Rattle.memo_plan.specs.Plan.{IsPlan}
use Rattle.memo_answers.specs.Known.{AreTestsOf}
use Rattle.ent_eval.specs.Names.{request_by}
use Rattle.ent_evaluator.proofs.TestsKept.{is_signed, tests_signed, told_of}
use Rattle.ent_evaluator.proofs.tests.PlanTests.sign.Goals as goal

pub unreachable-requires : goal.unreachable-requires
unreachable-requires g c = absurd (cc (c.requires.plan.1.0, c.in-None.is))

pub way_of-requires-clause-plan : goal.way_of-requires-clause-plan
way_of-requires-clause-plan g c =
    let looks = g.L.LookUps.looks c.args.held.now in
    let told = told_of looks c.args.questions.now c.args.findings.now.bags c.args.self.now c.in-Some.plan c.in-Some.is c.requires.plan c.requires.tests in
    subst (IsPlan looks) (sym c.as_slice.ensures) told.1.plan

pub way_of-requires-clause-known : goal.way_of-requires-clause-known
way_of-requires-clause-known g c =
    let looks = g.L.LookUps.looks c.args.held.now in
    let told = told_of looks c.args.questions.now c.args.findings.now.bags c.args.self.now c.in-Some.plan c.in-Some.is c.requires.plan c.requires.tests in
    record {
      findings = c.requires.named.findings;
      person = c.requires.named.person;
      action = c.requires.named.action;
      resource = c.requires.named.resource;
      tests = subst (λ es. AreTestsOf looks c.args.questions.now c.args.findings.now.bags es c.args.self.now.learnt.list.items) (sym c.as_slice.ensures) told.1.tests;
    }

pub returns-clause-signed : goal.returns-clause-signed
returns-clause-signed g c =
    is_signed c.way_of.result (g.L.LookUps.looks c.args.held.now) c.way_of.new.questions
    (request_by c.args.names) c.in-Some.plan c.as_slice.result.now c.args.self.now
    (record c.args.self.now { learnt = c.way_of.new.tests; way = c.way_of.new.way; worth = c.begin.new.self })
    c.as_slice.ensures c.in-Some.is c.requires.plan refl c.way_of.ensures.signed

pub returns-clause-tests : goal.returns-clause-tests
returns-clause-tests g c =
    tests_signed (g.L.LookUps.looks c.args.held.now) c.args.questions.now c.way_of.new.questions
    c.args.findings.now.bags c.way_of.new.findings.bags c.way_of.ensures.questions c.in-Some.plan c.as_slice.result.now
    c.args.self.now
    (record c.args.self.now { learnt = c.way_of.new.tests; way = c.way_of.new.way; worth = c.begin.new.self })
    c.as_slice.ensures c.in-Some.is c.requires.plan c.requires.tests refl refl c.way_of.ensures.known.tests
    c.way_of.ensures.tells

pub returns-clause-named : goal.returns-clause-named
returns-clause-named g c =
    let known = c.way_of.ensures.known in
    record { findings = known.findings; person = known.person; action = known.action; resource = known.resource }
