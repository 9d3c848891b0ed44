use Rattle.std.proofs.Common.{sym, ◌∙◌}
use Rattle.ent_evaluator.proofs.PlanStands.{equal_dates}
use Rattle.ent_evaluator.proofs.plan.same_dates.Goals as goal

pub returns : goal.returns
returns c = λ h. equal_dates c.args.first c.args.second (sym c.eq.ensures ∙ h)
