-- How deep expressions and policy sets are.
use Rattle.std.specs.Prelude.{ℕ, ◌+◌, max, List, [], ◌∷◌, Bool, false, ◌||◌, Option, Some, None, nat_lt}
use Rattle.std.specs.List.{list_any}
use Rattle.ent_policy.specs.declared.document.Policy.{Policy}
use Rattle.ent_policy.specs.declared.document.Rule.{Rule}
use Rattle.ent_policy.specs.declared.document.Child.{Child}
use Rattle.ent_policy.specs.declared.document.Child.TheOpen.{Child-F, PolicySet-F}
use Rattle.ent_policy.specs.declared.document.Child.TheFolds.{fold-Child}
use Rattle.ent_policy.specs.declared.expression.Expression.{Expression}
use Rattle.ent_policy.specs.declared.expression.Expression.TheOpen.{Expression-F}
use Rattle.ent_policy.specs.declared.expression.Expression.TheFolds.{fold-Expression}
use Rattle.ent_policy.specs.declared.expression.VariableDefinition.{VariableDefinition}
use Rattle.ent_policy.specs.declared.given.AssignmentExpression.{AssignmentExpression}
use Rattle.ent_policy.specs.declared.given.GivenExpression.{GivenExpression}
use Rattle.ent_policy.specs.declared.given.GivenExpressions.{GivenExpressions}
use Rattle.ent_policy.specs.Variables.{variable_by}

-- the greatest of some numbers, 0 where there is none
abbrev pub greatest : List ℕ → ℕ
greatest [] = 0
greatest (n ∷ ns) = max n (greatest ns)

-- one level of an expression, where `refer` gives the depth that a variable stands for
abbrev pub depth_step : (List ℕ → ℕ) → Expression-F ℕ → ℕ
depth_step refer (Expression-F.Value value) = 1
depth_step refer (Expression-F.Designator designator) = 1
depth_step refer (Expression-F.Variable id) = refer id
depth_step refer (Expression-F.Apply function arguments) = 1 + greatest arguments
depth_step refer (Expression-F.Function function) = 1

-- how deep an expression is: a leaf is 1, and a variable as deep as its definition
abbrev pub depth_with : (List ℕ → ℕ) → Expression → ℕ
depth_with refer = fold-Expression ℕ (depth_step refer)

-- the depth of a variable's definition
abbrev pub defined_depth : List VariableDefinition → List ℕ → ℕ
defined_depth = variable_by depth_with 0

-- an expression is deeper than 16
abbrev pub is_deep : (List ℕ → ℕ) → Expression → Bool
is_deep refer e = nat_lt 16 (depth_with refer e)

-- a condition is
abbrev pub is_deep_condition : (List ℕ → ℕ) → Option Expression → Bool
is_deep_condition refer None = false
is_deep_condition refer (Some e) = is_deep refer e

-- an assignment of an obligation or an advice is
abbrev pub is_deep_given_expression : (List ℕ → ℕ) → GivenExpression → Bool
is_deep_given_expression refer g = list_any (λ (a : AssignmentExpression). is_deep refer a.expression) g.assignments

-- an assignment of some obligations and advice is
abbrev pub is_deep_given : (List ℕ → ℕ) → GivenExpressions → Bool
is_deep_given refer g = list_any (is_deep_given_expression refer) g.obligations || list_any (is_deep_given_expression refer) g.advice

-- a condition or an assignment of a rule is
abbrev pub is_deep_rule : (List ℕ → ℕ) → Rule → Bool
is_deep_rule refer r = is_deep_condition refer r.condition || is_deep_given refer r.given

-- a definition, a rule's condition or an assignment of the policy is
abbrev pub has_deep_expression : Policy → Bool
has_deep_expression p =
    list_any (λ (d : VariableDefinition). is_deep (defined_depth p.variables) d.expression) p.variables
    || list_any (is_deep_rule (defined_depth p.variables)) p.rules
    || is_deep_given (defined_depth p.variables) p.given

-- one level of a child, with a set already seen
abbrev pub deep_in_child : Child-F Bool Bool → Bool
deep_in_child (Child-F.Policy policy) = has_deep_expression policy
deep_in_child (Child-F.Set set) = set
deep_in_child (Child-F.Reference reference) = false

-- a set, with each child already seen
abbrev pub deep_in_set : PolicySet-F Bool Bool → Bool
deep_in_set set = list_any (λ child. child) set.children || is_deep_given (defined_depth []) set.given

-- some expression of a child is deeper than 16
abbrev pub has_deep : Child → Bool
has_deep = fold-Child Bool Bool deep_in_child deep_in_set

-- one level of a child, with the depth of a set
abbrev pub child_depth_step : Child-F ℕ ℕ → ℕ
child_depth_step (Child-F.Policy policy) = 1
child_depth_step (Child-F.Set depth) = depth
child_depth_step (Child-F.Reference reference) = 1

-- one level of a policy set: one more than its deepest child
abbrev pub set_depth_step : PolicySet-F ℕ ℕ → ℕ
set_depth_step set = 1 + greatest set.children

-- how deep policy sets stand in each other: a policy and a reference are 1, and so is a set without children
abbrev pub depth : Child → ℕ
depth = fold-Child ℕ ℕ child_depth_step set_depth_step

-- an expression or a policy set is deeper than 16
abbrev pub exceeds_depth : Child → Bool
exceeds_depth t = has_deep t || nat_lt 16 (depth t)
