use Rattle.std.proofs.Common.{sym, ◌∙◌}
use Rattle.ent_evaluator.proofs.PlanStands.{equal_moments}
use Rattle.ent_evaluator.proofs.plan.same_moments.Goals as goal

pub returns : goal.returns
returns c = λ h. equal_moments c.args.first c.args.second (sym c.eq.ensures ∙ h)
