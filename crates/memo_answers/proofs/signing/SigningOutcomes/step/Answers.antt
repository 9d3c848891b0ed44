use Rattle.memo_plan.specs.Plan.{task_came}
use Rattle.memo_answers.specs.proofs_only.Signing.{scene_of}
use Rattle.memo_answers.proofs.Follow.{follows_grows}
use Rattle.memo_answers.proofs.signing.SigningOutcomes.step.Goals as goal

pub returns-in_err-number-clause-grows : goal.returns-in_err-number-clause-grows
returns-in_err-number-clause-grows g c = follows_grows g.L.LookUps.looks c.args.self.now c.number.new.self c.in_err-number.ensures.follows

pub step_at-requires : goal.step_at-requires
step_at-requires g c = (task_came c.args.task.now (scene_of g.L.LookUps.looks c.args.self.now), c.in_ok-number.ensures.comes)

pub returns-clause-tells : goal.returns-clause-tells
returns-clause-tells g c = c.step_at.ensures (task_came c.args.task.now (scene_of g.L.LookUps.looks c.args.self.now)) c.in_ok-number.ensures.comes

pub returns-clause-grows : goal.returns-clause-grows
returns-clause-grows g c = follows_grows g.L.LookUps.looks c.args.self.now c.number.new.self c.in_ok-number.ensures.follows
