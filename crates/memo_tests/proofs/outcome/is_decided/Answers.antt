use Rattle.std.proofs.Common.{ap, sym, ◌∙◌}
use Rattle.ent_request.proofs.Sames.{answer-Decides}
use Rattle.memo_plan.specs.declared.tested.Tested.TheVariants.{Decides}
use Rattle.memo_tests.proofs.outcome.is_decided.Goals as goal

pub returns-in-Decides : goal.returns-in-Decides
returns-in-Decides c = λ h. ap Decides ((answer-Decides c.args.one.now c.in-Decides.other).0 (sym c.eq.ensures ∙ h)) ∙ sym c.in-Decides.is
