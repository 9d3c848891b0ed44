use Rattle.std.proofs.Common.{Some, ap, ◌∙◌}
use Rattle.ent_evaluator.proofs.plan.is_root.Goals as goal

pub returns-in-Some : goal.returns-in-Some
returns-in-Some c = λ h. c.in-Some.is ∙ ap Some (c.same_reference.ensures h)
