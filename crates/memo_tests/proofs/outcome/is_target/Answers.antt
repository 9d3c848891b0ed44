use Rattle.std.proofs.Common.{ap, sym, ◌∙◌}
use Rattle.memo_plan.specs.declared.tested.Tested.TheVariants.{Target}
use Rattle.memo_tests.proofs.Outcomes.{targeted_same}
use Rattle.memo_tests.proofs.outcome.is_target.Goals as goal

pub returns-in-Target : goal.returns-in-Target
returns-in-Target c = λ h. ap Target (targeted_same c.args.one c.in-Target.other (sym c.eq.ensures ∙ h)) ∙ sym c.in-Target.is
