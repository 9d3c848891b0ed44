use Rattle.std.proofs.Common.{sym, ◌∙◌}
use Rattle.ent_evaluator.proofs.PlanStands.{equal_times}
use Rattle.ent_evaluator.proofs.plan.same_times.Goals as goal

pub returns : goal.returns
returns c = λ h. equal_times c.args.first c.args.second (sym c.eq.ensures ∙ h)
