use Rattle.std.proofs.Common.{ap, sym, ◌∙◌}
use Rattle.memo_plan.specs.declared.tested.Tested.TheVariants.{Condition}
use Rattle.memo_tests.proofs.Outcomes.{truth_same}
use Rattle.memo_tests.proofs.outcome.is_condition.Goals as goal

pub returns-in-Condition : goal.returns-in-Condition
returns-in-Condition c = λ h. ap Condition (truth_same c.args.one c.in-Condition.other (sym c.eq.ensures ∙ h)) ∙ sym c.in-Condition.is
