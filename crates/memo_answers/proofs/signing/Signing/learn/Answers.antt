use Rattle.std.proofs.Common.{refl}
use Rattle.memo_answers.specs.proofs_only.Signing.{request_of}
use Rattle.memo_tests.specs.Tested.{came_of}
use Rattle.memo_answers.proofs.Follow.{follows_learnt, is_there}
use Rattle.memo_answers.proofs.Kept.{learns_tells}
use Rattle.memo_answers.proofs.signing.Signing.learn.Goals as goal

pub learn-requires-clause-there : goal.learn-requires-clause-there
learn-requires-clause-there g c = is_there g.L.LookUps.looks c.args.self.now c.args.place c.requires.came.0 c.requires.came.1.0

pub learn-requires-clause-ready : goal.learn-requires-clause-ready
learn-requires-clause-ready g c =
    let known = c.requires.came.1.0.0.known in
    record { are = known.findings; at = record { person = known.person; action = known.action; resource = known.resource } }

pub returns-clause-comes : goal.returns-clause-comes
returns-clause-comes g c =
    let s = c.args.self.now in
    learns_tells (g.L.LookUps.looks s.held.now) s.questions s.findings.bags c.learn.new.findings.bags (request_of s) c.args.outcome s.tests.list.items c.learn.new.self.list.items c.args.place c.learn.result
    c.learn.ensures.learns (came_of s.questions c.args.outcome) c.requires.within refl

pub returns-clause-follows : goal.returns-clause-follows
returns-clause-follows g c =
    let ready = c.learn.ensures.keeps.ready in
    let came = c.requires.came in
    follows_learnt g.L.LookUps.looks c.args.self.now c.learn.new.findings c.learn.new.self c.args.outcome c.args.place came.0 c.learn.result came.1.0.0 came.1.0.1 c.learn.ensures.keeps.begins
    ready.are ready.at.person ready.at.action ready.at.resource c.learn.ensures.learns came.1.1
