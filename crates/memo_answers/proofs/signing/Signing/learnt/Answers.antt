use Rattle.std.proofs.Common.{ap, subst, sym, ◌∙◌}
use Rattle.std.specs.Prelude.{IfOk}
use Rattle.memo_plan.specs.Heard.{Came}
use Rattle.memo_plan.specs.Plan.{task_came}
use Rattle.memo_answers.specs.proofs_only.Signing.{TellsAt}
use Rattle.memo_answers.proofs.Follow.{follows_then, has_still, same_scene}
use Rattle.memo_answers.proofs.signing.Signing.learnt.Goals as goal

pub learn-requires-clause-came : goal.learn-requires-clause-came
learn-requires-clause-came g c =
    let looks = g.L.LookUps.looks in
    let follows = c.in_ok-outcome.ensures.follows in (
      c.args.task.now,
      (
        has_still looks c.args.self.now c.outcome.new.self c.args.place c.args.task.now follows c.requires.test,
        ap (task_came c.args.task.now) (same_scene looks c.args.self.now c.outcome.new.self follows.same) ∙ c.in_ok-outcome.ensures.comes,
      ),
    )

pub returns-clause-comes : goal.returns-clause-comes
returns-clause-comes g c =
    subst (λ (came : Came). IfOk c.learn.result (λ n. TellsAt c.learn.new.self c.args.place n came)) (sym c.in_ok-outcome.ensures.comes) c.learn.ensures.comes

pub returns-clause-follows : goal.returns-clause-follows
returns-clause-follows g c = follows_then g.L.LookUps.looks c.args.self.now c.outcome.new.self c.learn.new.self c.in_ok-outcome.ensures.follows c.learn.ensures.follows
