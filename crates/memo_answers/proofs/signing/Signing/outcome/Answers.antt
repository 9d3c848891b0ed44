use Rattle.std.proofs.Common.{Some, ap, sym, ◌∙◌}
use Rattle.memo_plan.specs.Plan.{task_came}
use Rattle.memo_answers.proofs.Follow.{follows_request, follows_then, same_request, same_scene}
use Rattle.memo_answers.proofs.signing.Signing.outcome.Goals as goal

pub returns-in_err-outcome-clause-follows : goal.returns-in_err-outcome-clause-follows
returns-in_err-outcome-clause-follows g c = follows_then g.L.LookUps.looks c.args.self.now c.requested.new.self c.evaluated.new.self c.in_ok-request.ensures.follows c.in_err-outcome.ensures.follows

pub returns-clause-comes : goal.returns-clause-comes
returns-clause-comes g c =
    ap (task_came c.args.task.now) (sym (same_scene g.L.LookUps.looks c.args.self.now c.requested.new.self c.in_ok-request.ensures.follows.same)) ∙ c.in_ok-outcome.ensures.comes

pub returns-clause-follows : goal.returns-clause-follows
returns-clause-follows g c =
    let looks = g.L.LookUps.looks in
    let before = c.requested.new.self in
    let after = c.evaluated.new.self in
    let first = follows_then looks c.args.self.now before after c.in_ok-request.ensures.follows c.in_ok-outcome.ensures.follows in
    follows_then looks c.args.self.now after _ first
    (follows_request looks after (Some c.in_ok-request.request) (c.in_ok-request.ensures.request ∙ sym (same_request before after c.in_ok-outcome.ensures.follows.same)))
