use Rattle.std.proofs.Common.{subst}
use Rattle.std.specs.Prelude.{IfOk, IfSome}
use Rattle.memo_plan.specs.Plan.{Scene, task_came}
use Rattle.memo_answers.specs.proofs_only.Signing.{TellsAt, scene_of}
use Rattle.memo_answers.proofs.Follow.{follows_then, has_still, same_scene}
use Rattle.memo_answers.proofs.signing.Signing.number.Goals as goal

pub known-requires : goal.known-requires
known-requires g c = (c.args.task.now, c.requires.test)

pub returns-in-Some-clause-comes : goal.returns-in-Some-clause-comes
returns-in-Some-clause-comes g c =
    subst (λ o. IfSome o (λ n. TellsAt c.known.new.self c.args.place n (task_came c.args.task.now (scene_of g.L.LookUps.looks c.args.self.now)))) c.in-Some.is (c.in_ok-number.ensures.comes c.args.task.now c.requires.test)

pub learnt-requires-clause-test : goal.learnt-requires-clause-test
learnt-requires-clause-test g c = has_still g.L.LookUps.looks c.args.self.now c.known.new.self c.args.place c.args.task.now c.in_ok-number.ensures.follows c.requires.test

pub returns-in-None-clause-comes : goal.returns-in-None-clause-comes
returns-in-None-clause-comes g c =
    subst (λ (w : Scene). IfOk c.learnt.result (λ n. TellsAt c.learnt.new.self c.args.place n (task_came c.args.task.now w)))
    (same_scene g.L.LookUps.looks c.args.self.now c.known.new.self c.in_ok-number.ensures.follows.same) c.learnt.ensures.comes

pub returns-in-None-clause-follows : goal.returns-in-None-clause-follows
returns-in-None-clause-follows g c = follows_then g.L.LookUps.looks c.args.self.now c.known.new.self c.learnt.new.self c.in_ok-number.ensures.follows c.learnt.ensures.follows
