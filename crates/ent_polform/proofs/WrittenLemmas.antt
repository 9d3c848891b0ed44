-- One level of what is written of expressions and policy sets.
use Rattle.std.proofs.Common.{◌≡◌, List, map, codes, ap, ◌∙◌}
use Rattle.serde_json.specs.Data.{Data}
use Rattle.ent_functions.specs.declared.function.Function.{Function}
use Rattle.ent_policy.specs.declared.document.Child.TheFolds.{fold-roll-Child, fold_out-PolicySet}
use Rattle.ent_policy.specs.declared.document.Child.TheOpen.{Child-F}
use Rattle.ent_policy.specs.declared.document.Child.TheVariants as children
use Rattle.ent_policy.specs.declared.document.PolicySet.{PolicySet}
use Rattle.ent_policy.specs.declared.expression.Expression.{Expression}
use Rattle.ent_policy.specs.declared.expression.Expression.TheFolds.{fold-roll-Expression}
use Rattle.ent_policy.specs.declared.expression.Expression.TheOpen.{Expression-F}
use Rattle.ent_policy.specs.declared.expression.Expression.TheVariants as expressions
use Rattle.ent_json.specs.Members.{only_member}
use Rattle.ent_polform.specs.Written.{apply_written, child_step, child_written, expression_step, expression_written, set_with}
use Rattle.ent_polform.specs.proofs_only.Written.{set_written}

pub apply_is_written : (function : Function) (arguments : List Expression) → expression_written (expressions.Apply function arguments) ≡ only_member (codes "Apply") (apply_written function (map expression_written arguments))
unfolding Rattle.ent_policy.specs.declared.expression.Expression.TheViews.roll-Expression denote.Hole.Carrier.roll
apply_is_written function arguments = fold-roll-Expression Data expression_step (Expression-F.Apply function arguments)

pub set_is_written : (set : PolicySet) → child_written (children.Set set) ≡ only_member (codes "PolicySet") (set_written set)
unfolding Rattle.ent_policy.specs.declared.document.Child.TheViews.roll-Child denote.Hole.Carrier.roll set_written
set_is_written set =
    fold-roll-Child Data Data child_step set_with (Child-F.Set set)
    ∙ ap (only_member (codes "PolicySet")) (fold_out-PolicySet Data Data child_step set_with set)
