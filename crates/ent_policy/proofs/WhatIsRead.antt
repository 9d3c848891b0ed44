-- The equations of what is read.
use Rattle.std.proofs.Common.{◌≡◌, ℕ, List, ap, ◌∙◌}
use Rattle.ent_policy.specs.declared.document.Child.{Child}
use Rattle.ent_policy.specs.declared.document.Child.TheVariants as child
use Rattle.ent_policy.specs.declared.document.PolicySet.{PolicySet}
use Rattle.ent_policy.specs.declared.expression.Expression.{Expression}
use Rattle.ent_policy.specs.declared.raw.RawChild.{RawChild}
use Rattle.ent_policy.specs.declared.raw.RawChild.TheVariants as raw
use Rattle.ent_policy.specs.declared.raw.RawChild.TheOpen.{RawChild-F}
use Rattle.ent_policy.specs.declared.raw.RawChild.TheFolds.{fold-roll-RawChild, fold_out-RawPolicySet}
use Rattle.ent_policy.specs.declared.raw.RawPolicySet.{RawPolicySet}
use Rattle.ent_policy.specs.declared.raw.RawExpression.{RawExpression}
use Rattle.ent_policy.specs.declared.raw.RawExpression.TheVariants as raw_expressions
use Rattle.ent_policy.specs.declared.raw.RawExpression.TheOpen.{RawExpression-F}
use Rattle.ent_policy.specs.declared.raw.RawExpression.TheFolds.{fold-roll-RawExpression}
use Rattle.ent_policy.specs.declared.read.Read.{Read}
use Rattle.ent_policy.specs.Reading.{child_read, child_step, expression_read, expression_step, made, set_read, set_step}
use Rattle.ent_policy.specs.proofs_only.Reading.{apply_read}

pub apply_is_read : (id : List ℕ) (arguments : List RawExpression) → expression_read (raw_expressions.Apply id arguments) ≡ apply_read id arguments
unfolding Rattle.ent_policy.specs.declared.raw.RawExpression.TheViews.roll-RawExpression denote.Hole.Carrier.roll
apply_is_read id arguments = fold-roll-RawExpression (Read Expression) expression_step (RawExpression-F.Apply id arguments)

pub set_is_read : (set : RawPolicySet) → child_read (raw.Set set) ≡ made (λ s. child.Set s) (set_read set)
unfolding Rattle.ent_policy.specs.declared.raw.RawChild.TheViews.roll-RawChild denote.Hole.Carrier.roll
set_is_read set =
    fold-roll-RawChild (Read Child) (Read PolicySet) child_step set_step (RawChild-F.Set set)
    ∙ ap (made (λ s. child.Set s)) (fold_out-RawPolicySet (Read Child) (Read PolicySet) child_step set_step set)
