-- The equations of limits.
use Rattle.std.proofs.Common.{◌≡◌, List, [], ◌∷◌, map, Option, refl, ap, ◌∙◌}
use Rattle.std.proofs.lemmas.List.{length-map}
use Rattle.ent_functions.specs.declared.function.Function.{Function}
use Rattle.ent_policy.specs.declared.document.Child.{Child}
use Rattle.ent_policy.specs.declared.document.Child.TheVariants as children
use Rattle.ent_policy.specs.declared.document.Child.TheOpen.{Child-F}
use Rattle.ent_policy.specs.declared.document.Child.TheFolds.{fold-roll-Child, fold_out-PolicySet}
use Rattle.ent_policy.specs.declared.document.PolicySet.{PolicySet}
use Rattle.ent_policy.specs.declared.expression.Expression.{Expression}
use Rattle.ent_policy.specs.declared.expression.Expression.TheVariants as expressions
use Rattle.ent_policy.specs.declared.expression.Expression.TheOpen.{Expression-F}
use Rattle.ent_policy.specs.declared.expression.Expression.TheFolds.{fold-roll-Expression}
use Rattle.ent_policy.specs.declared.fault.DocFault.{DocFault}
use Rattle.ent_policy.specs.First.{earlier, first_of}
use Rattle.ent_policy.specs.Limits.{expression_fault, expression_limits, given_fault, length_fault, limit_fault, name_fault, set_limits, target_fault, child_limits}

length_of_map : {A B : Type 0} (f : A → B) (xs : List A) → length_fault (map f xs) ≡ length_fault xs
length_of_map f xs = rw (length-map) refl

pub limits_of_apply : (function : Function) (arguments : List Expression) → expression_fault (expressions.Apply function arguments) ≡ earlier (length_fault arguments) (first_of (map expression_fault arguments))
unfolding Rattle.ent_policy.specs.declared.expression.Expression.TheViews.roll-Expression denote.Hole.Carrier.roll
limits_of_apply function arguments =
    fold-roll-Expression (Option DocFault) expression_limits (Expression-F.Apply function arguments)
    ∙ ap (λ f. earlier f (first_of (map expression_fault arguments))) (length_of_map expression_fault arguments)

pub limits_of_set : (set : PolicySet) → limit_fault (children.Set set) ≡ first_of (name_fault set.id ∷ length_fault set.children ∷ target_fault set.target ∷ first_of (map limit_fault set.children) ∷ given_fault set.given ∷ [])
unfolding Rattle.ent_policy.specs.declared.document.Child.TheViews.roll-Child denote.Hole.Carrier.roll
limits_of_set set =
    fold-roll-Child (Option DocFault) (Option DocFault) child_limits set_limits (Child-F.Set set)
    ∙ fold_out-PolicySet (Option DocFault) (Option DocFault) child_limits set_limits set
    ∙ ap (λ f. first_of (name_fault set.id ∷ f ∷ target_fault set.target ∷ first_of (map limit_fault set.children) ∷ given_fault set.given ∷ [])) (length_of_map limit_fault set.children)
