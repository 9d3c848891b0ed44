-- `==` decides whether documents are equal.
use denote.Enum.Bare.{same_true}
use denote.Enum.Compared.{Each}
use denote.Hole.Compared.{compared_is}
use Rattle.std.proofs.Common.{◌≡◌, Bool, ◌&&◌, sym, ◌∙◌, subst}
use Rattle.std.specs.Bool.{Decides}
use Rattle.std.specs.Cmp.{booleans_Decides}
use Rattle.std.specs.Cmp.Lexicographic.{pointwise}
use Rattle.std.specs.Str.{bytes_eq}
use Rattle.std.proofs.lemmas.Slice.Eq.{bytes_eq-Decides}
use Rattle.ent_combine.specs.contracts.outcome.PolicyAlg as policy_alg
use Rattle.ent_combine.specs.contracts.outcome.PolicyAlgPartialEq.TheImpl as policy_algs
use Rattle.ent_combine.specs.contracts.outcome.RuleAlg as rule_alg
use Rattle.ent_combine.specs.declared.outcome.PolicyAlg.{PolicyAlg}
use Rattle.ent_functions.specs.contracts.function.FunctionPartialEq.TheImpl as functions
use Rattle.ent_policy.specs.Same.{same_document, same_reference}
use Rattle.ent_policy.specs.contracts.document.AllOf as all_of
use Rattle.ent_policy.specs.contracts.document.AnyOf as any_of
use Rattle.ent_policy.specs.contracts.document.Child as child
use Rattle.ent_policy.specs.contracts.document.ChildPartialEq.TheImpl as kept
use Rattle.ent_policy.specs.contracts.document.ChildPartialEq.TheImpl.Laws as children
use Rattle.ent_policy.specs.contracts.document.Designator as designator
use Rattle.ent_policy.specs.contracts.document.DesignatorPartialEq.TheImpl as designators
use Rattle.ent_policy.specs.contracts.document.Effect as effect
use Rattle.ent_policy.specs.contracts.document.Match as match
use Rattle.ent_policy.specs.contracts.document.Policy as policy
use Rattle.ent_policy.specs.contracts.document.PolicyPartialEq.TheImpl as policies
use Rattle.ent_policy.specs.contracts.document.Rule as rule
use Rattle.ent_policy.specs.contracts.document.RulePartialEq.TheImpl as rules
use Rattle.ent_policy.specs.contracts.document.Target as target
use Rattle.ent_policy.specs.contracts.document.TargetPartialEq.TheImpl as targets
use Rattle.ent_policy.specs.contracts.document.Tree as tree
use Rattle.ent_policy.specs.contracts.document.TreeEq.TheImpl.Laws as equivalence
use Rattle.ent_policy.specs.contracts.expression.Expression as expression
use Rattle.ent_policy.specs.contracts.expression.ExpressionPartialEq.TheImpl.{ghosts}
use Rattle.ent_policy.specs.contracts.expression.ExpressionPartialEq.TheImpl.Laws as expressions
use Rattle.ent_policy.specs.contracts.expression.VariableDefinition as definition
use Rattle.ent_policy.specs.contracts.given.AssignmentExpression as assignment
use Rattle.ent_policy.specs.contracts.given.GivenExpression as given_expression
use Rattle.ent_policy.specs.contracts.given.GivenExpressionPartialEq.TheImpl as given_expressions
use Rattle.ent_policy.specs.contracts.given.GivenExpressions as given
use Rattle.ent_policy.specs.contracts.given.GivenExpressionsPartialEq.TheImpl as givens
use Rattle.ent_policy.specs.declared.document.Designator.{Designator}
use Rattle.ent_policy.specs.declared.document.Policy.{Policy}
use Rattle.ent_policy.specs.declared.document.PolicySet.{PolicySet}
use Rattle.ent_policy.specs.declared.document.Rule.{Rule}
use Rattle.ent_policy.specs.declared.document.Target.{Target}
use Rattle.ent_policy.specs.declared.document.Tree.{Tree}
use Rattle.ent_policy.specs.declared.document.Child.{Child}
use Rattle.ent_policy.specs.declared.document.Child.TheBlock as block
use Rattle.ent_policy.specs.declared.document.Child.TheFolds.{ind-PolicySet, map-Child, map-PolicySet}
use Rattle.ent_policy.specs.declared.document.Child.TheOpen.{Child-F, PolicySet-F}
use Rattle.ent_policy.specs.declared.document.Child.TheViews.{out-roll-Child, roll-Child, roll-PolicySet}
use Rattle.ent_policy.specs.declared.given.GivenExpression.{GivenExpression}
use Rattle.ent_policy.specs.declared.given.GivenExpressions.{GivenExpressions}
use Rattle.ent_policy.specs.declared.expression.Expression.{Expression}
use Rattle.ent_policy.specs.declared.expression.Expression.TheBlock as expression_block
use Rattle.ent_policy.specs.declared.expression.Expression.TheFolds.{ind-Expression, map-Expression}
use Rattle.ent_policy.specs.declared.expression.Expression.TheOpen.{Expression-F}
use Rattle.ent_policy.specs.declared.expression.Expression.TheViews.{out-roll-Expression, roll-Expression}
use Rattle.std.proofs.lemmas.Bool.{and_parts}
use Rattle.ent_policy.proofs.Same.{reference-tells, same_version-Decides}
use Rattle.ent_values.proofs.Telling.{Tells, Told, decided, decides, enum, last, list, listed, maybe, more, struct, variant}
use Rattle.ent_functions.proofs.Same.{function-tells}
use Rattle.ent_values.proofs.Values.{same_type-Decides, same_value-Decides}
use Rattle.ent_values.specs.Same.{same_value}

designator-tells : (d : Designator) → Tells (designators.ghosts).eq d
designator-tells =
    struct designator.struct designator.the_propositions
    (more (decided bytes_eq-Decides) (more (decided bytes_eq-Decides) (more (decided same_type-Decides) (more (maybe (decided bytes_eq-Decides)) (last (decided booleans_Decides))))))

target-tells : (t : Target) → Tells (targets.ghosts).eq t
target-tells =
    struct target.struct target.the_propositions (last (list
    (struct any_of.struct any_of.the_propositions (last (list
    (struct all_of.struct all_of.the_propositions (last (list
    (struct match.struct match.the_propositions (more function-tells (more (decided same_value-Decides) (last designator-tells))))))))))))

-- an expression is compared by its variant, and then by its fields
abbrev same_expression : Expression → Expression → Bool
same_expression = (ghosts).eq

abbrev same_fields : Each Bool expression.enum.parts
same_fields = (
  λ a b. same_value a.0 b.0,
  (λ a b. (designators.ghosts).eq a.0 b.0, (λ a b. bytes_eq a.0 b.0, (λ a b. (functions.ghosts).eq a.0 b.0 && pointwise same_expression a.1.0 b.1.0, (λ a b. (functions.ghosts).eq a.0 b.0, tt)))),
)

abbrev Told_expression : Type 0
Told_expression = (e : Expression) × Tells same_expression e

expression-layer : (y : Expression-F Told_expression) → Tells same_expression (roll-Expression (map-Expression Told_expression Expression (λ e. e.0) y))
expression-layer y e h =
    variant expression.enum same_fields (roll-Expression x) (subst (λ z. Told expression.enum.parts same_fields (expression_block.split-Expression expression_block.the_family z)) (sym (out-roll-Expression x)) (fields y))
    e (sym (expressions.is (roll-Expression x) e) ∙ h)
  where
    x : Expression-F Expression
    x = map-Expression Told_expression Expression (λ e. e.0) y

    fields : (y : Expression-F Told_expression) → Told expression.enum.parts same_fields (expression_block.split-Expression expression_block.the_family (map-Expression Told_expression Expression (λ e. e.0) y))
    fields (Expression-F.Value v) = last (decided same_value-Decides) (v, tt)
    fields (Expression-F.Designator d) = last designator-tells (d, tt)
    fields (Expression-F.Variable id) = last (decided bytes_eq-Decides) (id, tt)
    fields (Expression-F.Apply f es) = λ w h. let p = and_parts _ _ h in λ i. (function-tells f w.0 p.0 i, (listed same_expression (λ e. e.0) (λ e. e.1) es w.1.0 p.1 i, tt))
    fields (Expression-F.Function f) = last function-tells (f, tt)

expression-tells : (e : Expression) → Tells same_expression e
expression-tells = ind-Expression (Tells same_expression) (λ x y is. subst (λ z. Tells same_expression (roll-Expression z)) is (expression-layer y))

given_expression-tells : (g : GivenExpression) → Tells (given_expressions.ghosts).eq g
given_expression-tells =
    struct given_expression.struct given_expression.the_propositions (more (decided bytes_eq-Decides) (more (same_true effect.the_type tt) (last (list
    (struct assignment.struct assignment.the_propositions (more (decided bytes_eq-Decides) (more (maybe (decided bytes_eq-Decides)) (more (maybe (decided bytes_eq-Decides)) (last expression-tells)))))))))

given-tells : (g : GivenExpressions) → Tells (givens.ghosts).eq g
given-tells = struct given.struct given.the_propositions (more (list given_expression-tells) (last (list given_expression-tells)))

rule-tells : (r : Rule) → Tells (rules.ghosts).eq r
rule-tells = struct rule.struct rule.the_propositions (more (decided bytes_eq-Decides) (more (same_true effect.the_type tt) (more target-tells (more (maybe expression-tells) (last given-tells)))))

policy-tells : (p : Policy) → Tells (policies.ghosts).eq p
policy-tells =
    struct policy.struct policy.the_propositions (more (decided bytes_eq-Decides) (more (decided same_version-Decides) (more (same_true rule_alg.the_type tt) (more target-tells (more
    (list (struct definition.struct definition.the_propositions (more (decided bytes_eq-Decides) (last expression-tells))))
    (more (list rule-tells) (last given-tells)))))))

algorithm-tells : (a : PolicyAlg) → Tells (policy_algs.ghosts).eq a
algorithm-tells = enum policy_alg.enum _ (last (same_true rule_alg.the_type tt), tt)

abbrev same_set : PolicySet → PolicySet → Bool
same_set = children.family block.member-PolicySet

abbrev same_child : Child → Child → Bool
same_child = (kept.ghosts).eq

abbrev Told_child : Type 0
Told_child = (c : Child) × Tells same_child c

abbrev Told_set : Type 0
Told_set = (s : PolicySet) × Tells same_set s

set-layer : (y : PolicySet-F Told_child Told_set) → Tells same_set (roll-PolicySet (map-PolicySet Told_child Told_set Child PolicySet (λ c. c.0) (λ s. s.0) y))
set-layer y s h =
    let x = roll-PolicySet (map-PolicySet Told_child Told_set Child PolicySet (λ c. c.0) (λ s. s.0) y) in
    let ids = and_parts _ _ (sym (compared_is _ _ _ _ _ _ children.local block.member-PolicySet x s) ∙ h) in
    let versions = and_parts _ _ ids.1 in
    let algorithms = and_parts _ _ versions.1 in
    let targets = and_parts _ _ algorithms.1 in
    let others = and_parts _ _ targets.1 in
    λ i. record {
      id = (bytes_eq-Decides y.id s.id).0 ids.0 i;
      version = (same_version-Decides y.version s.version).0 versions.0 i;
      algorithm = algorithm-tells y.algorithm s.algorithm algorithms.0 i;
      target = target-tells y.target s.target targets.0 i;
      children = listed same_child (λ c. c.0) (λ c. c.1) y.children s.children others.0 i;
      given = given-tells y.given s.given others.1 i;
    }

abbrev same_kept : Each Bool child.enum.parts
same_kept = (λ a b. (policies.ghosts).eq a.0 b.0, (λ a b. same_set a.0 b.0, (λ a b. same_reference a.0 b.0, tt)))

child-layer : (y : Child-F Told_child Told_set) → Tells same_child (roll-Child (map-Child Told_child Told_set Child PolicySet (λ c. c.0) (λ s. s.0) y))
child-layer y c h =
    variant child.enum same_kept (roll-Child x) (subst (λ z. Told child.enum.parts same_kept (block.split-Child block.the_family z)) (sym (out-roll-Child x)) (told y)) c (sym (children.is (roll-Child x) c) ∙ h)
  where
    x : Child-F Child PolicySet
    x = map-Child Told_child Told_set Child PolicySet (λ c. c.0) (λ s. s.0) y

    told : (y : Child-F Told_child Told_set) → Told child.enum.parts same_kept (block.split-Child block.the_family (map-Child Told_child Told_set Child PolicySet (λ c. c.0) (λ s. s.0) y))
    told (Child-F.Policy p) = last policy-tells (p, tt)
    told (Child-F.Set s) = λ w h i. (s.1 w.0 h i, tt)
    told (Child-F.Reference r) = last reference-tells (r, tt)

set-tells : (s : PolicySet) → Tells same_set s
set-tells = ind-PolicySet (Tells same_child) (Tells same_set) (λ x y is. subst (λ z. Tells same_child (roll-Child z)) is (child-layer y)) (λ x y is. subst (λ z. Tells same_set (roll-PolicySet z)) is (set-layer y))

tree-tells : (t : Tree) → Tells same_document t
tree-tells = enum tree.enum _ (last policy-tells, (last set-tells, tt))

pub same_document-Decides : (a b : Tree) → Decides (same_document a b) (a ≡ b)
same_document-Decides = decides equivalence.laws-law tree-tells
