-- One level of what is told of an expression, of a child and of a set.
use Rattle.std.proofs.Common.{◌≡◌, ℕ, List, ◌∷◌, [], ◌++◌, ap, ◌∙◌, refl, append_assoc, codes, map, subst, sym}
use Rattle.ent_functions.specs.declared.function.Function.{Function}
use Rattle.lint_meaning.specs.Bounds.{application_told}
use Rattle.lint_meaning.specs.Effects.{set_effects}
use Rattle.lint_meaning.specs.Expressions as expressions
use Rattle.lint_meaning.specs.Expressions.{inside, seen_step}
use Rattle.lint_meaning.specs.Places.{at_key, numbered}
use Rattle.lint_meaning.specs.Targets.{target_told}
use Rattle.lint_meaning.specs.Warnings as warnings
use Rattle.lint_meaning.specs.Warnings.{child_step, given_told, policy_told, set_step}
use Rattle.lint_meaning.specs.declared.warning.Warning.{Warning}
use Rattle.lint_meaning.specs.proofs_only.Views.{seen_set}
use Rattle.ent_policy.specs.declared.document.Child.TheFolds.{fold-roll-Child, fold_out-PolicySet}
use Rattle.ent_policy.specs.declared.document.Child.TheOpen.{Child-F}
use Rattle.ent_policy.specs.declared.document.Child.TheVariants as children
use Rattle.ent_policy.specs.declared.document.PolicySet.{PolicySet}
use Rattle.ent_policy.specs.declared.expression.Expression.{Expression}
use Rattle.ent_policy.specs.declared.expression.Expression.TheFolds.{fold-roll-Expression, ind-Expression, map-Expression}
use Rattle.ent_policy.specs.declared.expression.Expression.TheOpen.{Expression-F}
use Rattle.ent_policy.specs.declared.expression.Expression.TheVariants as expression
use Rattle.ent_policy.specs.declared.expression.Expression.TheViews.{roll-Expression}

-- ---- expressions

-- an expression is seen as itself
abbrev Is : Expression → Type 0
Is e = (expressions.seen e).it ≡ e

abbrev Seeing : Type 0
Seeing = (e : Expression) × Is e

each_is : (es : List Seeing) → map (λ s. s.it) (map expressions.seen (map (λ e. e.0) es)) ≡ map (λ e. e.0) es
each_is [] = refl
each_is (e ∷ es) = (λ i. e.1 i ∷ each_is es i)

layer : (y : Expression-F Seeing) → Is (roll-Expression (map-Expression Seeing Expression (λ e. e.0) y))
layer y = ap (λ s. s.it) (fold-roll-Expression expressions.Seen seen_step (map-Expression Seeing Expression (λ e. e.0) y)) ∙ ap roll-Expression (same y)
  where
    same : (y : Expression-F Seeing) → map-Expression expressions.Seen Expression (λ s. s.it) (map-Expression Expression expressions.Seen expressions.seen (map-Expression Seeing Expression (λ e. e.0) y))
        ≡ map-Expression Seeing Expression (λ e. e.0) y
    same (Expression-F.Value v) = refl
    same (Expression-F.Designator d) = refl
    same (Expression-F.Variable id) = refl
    same (Expression-F.Apply f es) = ap (λ es. Expression-F.Apply f es) (each_is es)
    same (Expression-F.Function f) = refl

seen_is : (e : Expression) → Is e
seen_is = ind-Expression Is (λ x y is. subst (λ z. Is (roll-Expression z)) is (layer y))

all_are : (es : List Expression) → map (λ s. s.it) (map expressions.seen es) ≡ es
all_are [] = refl
all_are (e ∷ es) = (λ i. seen_is e i ∷ all_are es i)

all_told : (es : List Expression) → map (λ s. s.told) (map expressions.seen es) ≡ map inside es
all_told [] = refl
all_told (e ∷ es) = ap (λ rest. inside e ∷ rest) (all_told es)

-- what is told inside of an application
pub inside_application : (f : Function) (es : List Expression) (pointer : List ℕ)
    → inside (expression.Apply f es) pointer ≡ application_told f es pointer ++ numbered (codes "Apply/Arguments") 0 (map inside es) pointer
unfolding Rattle.ent_policy.specs.declared.expression.Expression.TheViews.roll-Expression denote.Hole.Carrier.roll
inside_application f es pointer =
    ap (λ s. s.told pointer) (fold-roll-Expression expressions.Seen seen_step (Expression-F.Apply f es))
    ∙ (λ i. application_told f (all_are es i) pointer ++ numbered (codes "Apply/Arguments") 0 (all_told es i) pointer)

-- what is put last of its arguments, and then inside of them, is that
pub application_put : (e : Expression) (f : Function) (es : List Expression) (pointer : List ℕ) (before between after : List Warning)
    → e ≡ expression.Apply f es → between ≡ before ++ application_told f es pointer → after ≡ between ++ numbered (codes "Apply/Arguments") 0 (map inside es) pointer
    → after ≡ before ++ inside e pointer
application_put e f es pointer before between after is own others =
    others ∙ ap (λ ws. ws ++ numbered (codes "Apply/Arguments") 0 (map inside es) pointer) own
    ∙ append_assoc before (application_told f es pointer) (numbered (codes "Apply/Arguments") 0 (map inside es) pointer)
    ∙ ap (λ ws. before ++ ws) (sym (inside_application f es pointer)) ∙ ap (λ e. before ++ inside e pointer) (sym is)

-- ---- children and sets

-- what is told of a set as a child
pub set_told : (set : PolicySet) (pointer : List ℕ) → (warnings.seen (children.Set set)).told pointer ≡ (seen_set set).told (at_key pointer (codes "PolicySet"))
unfolding Rattle.ent_policy.specs.declared.document.Child.TheViews.roll-Child denote.Hole.Carrier.roll
set_told set pointer = ap (λ s. s.told pointer) (fold-roll-Child warnings.Seen warnings.Seen child_step set_step (Child-F.Set set))

-- what is told of a set, by its children
pub set_level : (set : PolicySet) (pointer : List ℕ) → (seen_set set).told pointer
    ≡ target_told set.target pointer ++ (numbered (codes "Children") 0 (map (λ c. c.told) (map warnings.seen set.children)) pointer
    ++ given_told (set_effects set.algorithm (map (λ c. c.gives) (map warnings.seen set.children))) set.given pointer)
set_level set pointer = ap (λ s. s.told pointer) (fold_out-PolicySet warnings.Seen warnings.Seen child_step set_step set)
