-- How many nodes expressions and documents have, and how many references.
use Rattle.std.specs.Prelude.{ℕ, ◌+◌, ◌*◌, List, [], Bool, ◌||◌, Option, Some, None, length, map, nat_lt}
use Rattle.std.specs.List.{sum}
use Rattle.ent_policy.specs.declared.document.AllOf.{AllOf}
use Rattle.ent_policy.specs.declared.document.AnyOf.{AnyOf}
use Rattle.ent_policy.specs.declared.document.Policy.{Policy}
use Rattle.ent_policy.specs.declared.document.Rule.{Rule}
use Rattle.ent_policy.specs.declared.document.Target.{Target}
use Rattle.ent_policy.specs.declared.document.Child.{Child}
use Rattle.ent_policy.specs.declared.document.Child.TheOpen.{Child-F, PolicySet-F}
use Rattle.ent_policy.specs.declared.document.Child.TheFolds.{fold-Child}
use Rattle.ent_policy.specs.declared.expression.Expression.{Expression}
use Rattle.ent_policy.specs.declared.expression.Expression.TheOpen.{Expression-F}
use Rattle.ent_policy.specs.declared.expression.Expression.TheFolds.{fold-Expression}
use Rattle.ent_policy.specs.declared.expression.VariableDefinition.{VariableDefinition}
use Rattle.ent_policy.specs.declared.given.AssignmentExpression.{AssignmentExpression}
use Rattle.ent_policy.specs.declared.given.GivenExpression.{GivenExpression}
use Rattle.ent_policy.specs.declared.given.GivenExpressions.{GivenExpressions}
use Rattle.ent_policy.specs.Variables.{variable_by}

-- one level of an expression, where `refer` gives the nodes that a variable stands for
abbrev pub nodes_step : (List ℕ → ℕ) → Expression-F ℕ → ℕ
nodes_step refer (Expression-F.Value value) = 1
nodes_step refer (Expression-F.Designator designator) = 1
nodes_step refer (Expression-F.Variable id) = 1 + refer id
nodes_step refer (Expression-F.Apply function arguments) = 1 + sum arguments
nodes_step refer (Expression-F.Function function) = 1

-- how many nodes an expression has: each form is one, and a variable adds those of its definition
abbrev pub nodes_with : (List ℕ → ℕ) → Expression → ℕ
nodes_with refer = fold-Expression ℕ (nodes_step refer)

-- the nodes of a variable's definition
abbrev pub defined_nodes : List VariableDefinition → List ℕ → ℕ
defined_nodes = variable_by nodes_with 0

-- the nodes of a condition, where there is one
abbrev pub condition_nodes : (List ℕ → ℕ) → Option Expression → ℕ
condition_nodes refer None = 0
condition_nodes refer (Some e) = nodes_with refer e

-- the nodes of an AnyOf: each match is two, its literal and its designator
abbrev pub any_of_nodes : AnyOf → ℕ
any_of_nodes a = sum (map (λ (b : AllOf). 2 * length b.matches) a.all_of)

-- the nodes of a target
abbrev pub target_nodes : Target → ℕ
target_nodes t = sum (map any_of_nodes t.any_of)

-- the nodes of an obligation or an advice: those of its assignments' expressions
abbrev pub given_expression_nodes : (List ℕ → ℕ) → GivenExpression → ℕ
given_expression_nodes refer g = sum (map (λ (a : AssignmentExpression). nodes_with refer a.expression) g.assignments)

-- the nodes of obligations and advice
abbrev pub given_nodes : (List ℕ → ℕ) → GivenExpressions → ℕ
given_nodes refer g = sum (map (given_expression_nodes refer) g.obligations) + sum (map (given_expression_nodes refer) g.advice)

-- the nodes of a rule: its target, its condition, its obligations and its advice
abbrev pub rule_nodes : (List ℕ → ℕ) → Rule → ℕ
rule_nodes refer r = target_nodes r.target + condition_nodes refer r.condition + given_nodes refer r.given

-- the nodes of a policy: its target, its definitions where they stand, its rules, its obligations and its advice
abbrev pub policy_nodes : Policy → ℕ
policy_nodes p = target_nodes p.target
    + sum (map (λ (d : VariableDefinition). nodes_with (defined_nodes p.variables) d.expression) p.variables)
    + sum (map (rule_nodes (defined_nodes p.variables)) p.rules)
    + given_nodes (defined_nodes p.variables) p.given

-- one level of a child, with the nodes of a set
abbrev pub child_nodes_step : Child-F ℕ ℕ → ℕ
child_nodes_step (Child-F.Policy policy) = policy_nodes policy
child_nodes_step (Child-F.Set nodes) = nodes
child_nodes_step (Child-F.Reference reference) = 0

-- one level of a policy set, with the nodes of each child
abbrev pub set_nodes_step : PolicySet-F ℕ ℕ → ℕ
set_nodes_step set = target_nodes set.target + sum set.children + given_nodes (defined_nodes []) set.given

-- how many nodes a child has
abbrev pub nodes : Child → ℕ
nodes = fold-Child ℕ ℕ child_nodes_step set_nodes_step

-- one level of a child, with the references of a set
abbrev pub child_references_step : Child-F ℕ ℕ → ℕ
child_references_step (Child-F.Policy policy) = 0
child_references_step (Child-F.Set references) = references
child_references_step (Child-F.Reference reference) = 1

-- one level of a policy set, with the references of each child
abbrev pub set_references_step : PolicySet-F ℕ ℕ → ℕ
set_references_step set = sum set.children

-- how many references a child has, those of the sets in it included
abbrev pub references : Child → ℕ
references = fold-Child ℕ ℕ child_references_step set_references_step

-- a document has more than 65,536 nodes or more than 32 references
abbrev pub exceeds_size : Child → Bool
exceeds_size c = nat_lt 65536 (nodes c) || nat_lt 32 (references c)
