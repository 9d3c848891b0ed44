-- What the checker measures: the words of its private contracts. Numbers are cut at one more than the limit.
use Rattle.std.specs.Prelude.{◌≡◌, ℕ, ◌+◌, min, List, Bool, true, false, ◌&&◌, ◌||◌, ◌==◌, Option, Some, None, is_some, length, map, unwrap_or}
use Rattle.std.specs.Borrow.{Bor}
use Rattle.std.specs.BTreeMap.{BTreeMap, get_by}
use Rattle.std.specs.Cmp.Lexicographic.{slice_cmp}
use Rattle.std.specs.Ordering.{nat_cmp}
use Rattle.std.specs.List.{fold, list_any, sum}
use Rattle.ent_functions.specs.declared.types.ArgType.{ArgType}
use Rattle.ent_policy.specs.declared.document.AllOf.{AllOf}
use Rattle.ent_policy.specs.declared.document.AnyOf.{AnyOf}
use Rattle.ent_policy.specs.declared.document.Match.{Match}
use Rattle.ent_policy.specs.declared.document.Policy.{Policy}
use Rattle.ent_policy.specs.declared.document.Rule.{Rule}
use Rattle.ent_policy.specs.declared.document.Target.{Target}
use Rattle.ent_policy.specs.declared.document.Child.{Child}
use Rattle.ent_policy.specs.declared.expression.Expression.{Expression}
use Rattle.ent_policy.specs.declared.expression.VariableDefinition.{VariableDefinition}
use Rattle.ent_policy.specs.declared.given.AssignmentExpression.{AssignmentExpression}
use Rattle.ent_policy.specs.declared.given.GivenExpression.{GivenExpression}
use Rattle.ent_policy.specs.declared.given.GivenExpressions.{GivenExpressions}
use Rattle.ent_policy.specs.declared.measure.Measured.{Measured}
use Rattle.ent_policy.specs.declared.extent.Extent.{Extent}
use Rattle.ent_policy.specs.Depths.{defined_depth, depth_with, greatest, has_deep, has_deep_expression}
use Rattle.ent_policy.specs.Sizes.{defined_nodes, nodes, nodes_with, policy_nodes, references, target_nodes}
use Rattle.ent_policy.specs.Typing.{all_typed, held, is_boolean, is_typed, match_is_typed, policy_is_typed, target_is_typed, type_with, variable_type}
use Rattle.ent_policy.specs.Variables.{has_bad_variable, has_variable_fault}

-- ---- expressions

-- what is measured of an expression, by what was measured of variables
abbrev pub measured_with : (List ℕ → Measured) → Expression → Measured
measured_with refer e = record {
  nodes = min 65537 (nodes_with (λ id. (refer id).nodes) e);
  depth = min 17 (depth_with (λ id. (refer id).depth) e);
  datatype = type_with (λ id. (refer id).datatype) e;
}

-- what is measured of arguments: their nodes together, the depth of the deepest, and their types, if each has one
pub record AreMeasured (refer : List ℕ → Measured) (arguments : List Expression) (nodes depth : ℕ) (types : Option (List ArgType)) : Type 0 where
  pub counted : nodes ≡ min 65537 (sum (map (nodes_with (λ id. (refer id).nodes)) arguments))
  pub deepest : depth ≡ min 17 (greatest (map (depth_with (λ id. (refer id).depth)) arguments))
  pub typed : types ≡ all_typed (map (type_with (λ id. (refer id).datatype)) arguments)

-- what is measured of a variable among the definitions of its policy
abbrev pub measured_variable : List VariableDefinition → List ℕ → Measured
measured_variable definitions id = record {
  nodes = min 65537 (defined_nodes definitions id);
  depth = min 17 (defined_depth definitions id);
  datatype = variable_type definitions (length definitions) id;
}

abbrev pub Table : Type 0
Table = BTreeMap (Bor (List ℕ)) Measured

-- what a table has for an id, and nothing where there is none
abbrev pub found : Table → List ℕ → Measured
found table id = unwrap_or (get_by (λ k. slice_cmp nat_cmp id k.now) table) (record { nodes = 0; depth = 0; datatype = None })

-- the table has what is measured of each variable
abbrev pub IsTableOf : List VariableDefinition → Table → Type 0
IsTableOf definitions table = (id : List ℕ) → found table id ≡ measured_variable definitions id

-- the table of a policy, unless a variable of it is bad
abbrev pub IsTable : Policy → Option Table → Type 0
IsTable p None = has_bad_variable p ≡ true
IsTable p (Some table) = (has_bad_variable p ≡ false) × IsTableOf p.variables table

-- ---- what stands in policies and sets

-- nothing
abbrev pub nothing : Extent
nothing = record { nodes = 0; references = 0; is_deep = false; is_typed = true }

-- two parts together
abbrev pub together : Extent → Extent → Extent
together a b = record { nodes = min 65537 (a.nodes + b.nodes); references = min 33 (a.references + b.references); is_deep = a.is_deep || b.is_deep; is_typed = a.is_typed && b.is_typed }

-- some parts together, of each of which we say what stands in it
abbrev pub whole : {X : Type 0} → (X → Extent) → List X → Extent
whole f parts = fold (λ all part. together all (f part)) nothing parts

-- what stands in a part, with its nodes and references up to the limits
abbrev pub limited : ℕ → ℕ → Bool → Bool → Extent
limited nodes references is_deep is_typed = record { nodes = min 65537 nodes; references = min 33 references; is_deep = is_deep; is_typed = is_typed }

-- a match has two nodes, its literal and its designator
abbrev pub match_extent : Match → Extent
match_extent m = record { nodes = 2; references = 0; is_deep = false; is_typed = match_is_typed m }

-- an AllOf
abbrev pub all_of_extent : AllOf → Extent
all_of_extent a = whole match_extent a.matches

-- an AnyOf
abbrev pub any_of_extent : AnyOf → Extent
any_of_extent a = whole all_of_extent a.all_of

-- a target
abbrev pub target_extent : Target → Extent
target_extent t = limited (target_nodes t) 0 false (target_is_typed t)

-- an expression, by what is measured of it and whether its type is right
abbrev pub measured_extent : (Option ArgType → Bool) → Measured → Extent
measured_extent is_right m = record { nodes = m.nodes; references = 0; is_deep = m.depth == 17; is_typed = is_right m.datatype }

-- an expression that gives a value or a bag
abbrev pub held_extent : (List ℕ → Measured) → Expression → Extent
held_extent refer e = measured_extent (λ t. is_some (held t)) (measured_with refer e)

-- a definition
abbrev pub definition_extent : (List ℕ → Measured) → VariableDefinition → Extent
definition_extent refer d = held_extent refer d.expression

-- a condition gives one boolean
abbrev pub condition_extent : (List ℕ → Measured) → Option Expression → Extent
condition_extent refer None = nothing
condition_extent refer (Some e) = measured_extent is_boolean (measured_with refer e)

-- an assignment
abbrev pub assignment_extent : (List ℕ → Measured) → AssignmentExpression → Extent
assignment_extent refer a = held_extent refer a.expression

-- an obligation or an advice
abbrev pub given_expression_extent : (List ℕ → Measured) → GivenExpression → Extent
given_expression_extent refer g = whole (assignment_extent refer) g.assignments

-- obligations and advice
abbrev pub given_extent : (List ℕ → Measured) → GivenExpressions → Extent
given_extent refer g = together (whole (given_expression_extent refer) g.obligations) (whole (given_expression_extent refer) g.advice)

-- a rule
abbrev pub rule_extent : (List ℕ → Measured) → Rule → Extent
rule_extent refer r = together (together (target_extent r.target) (condition_extent refer r.condition)) (given_extent refer r.given)

-- a policy
abbrev pub policy_extent : Policy → Extent
policy_extent p = limited (policy_nodes p) 0 (has_deep_expression p) (policy_is_typed p)

-- of a policy, unless a variable of it is bad
abbrev pub IsExtentOfPolicy : Policy → Option Extent → Type 0
IsExtentOfPolicy p None = has_bad_variable p ≡ true
IsExtentOfPolicy p (Some e) = (has_bad_variable p ≡ false) × (e ≡ policy_extent p)

-- a child of a set
abbrev pub child_extent : Child → Extent
child_extent c = limited (nodes c) (references c) (has_deep c) (is_typed c)

-- of a child, unless a variable of it is bad
abbrev pub IsExtentOf : Child → Option Extent → Type 0
IsExtentOf c None = has_variable_fault c ≡ true
IsExtentOf c (Some e) = (has_variable_fault c ≡ false) × (e ≡ child_extent c)

-- of some children
abbrev pub IsExtentOfAll : List Child → Option Extent → Type 0
IsExtentOfAll cs None = list_any has_variable_fault cs ≡ true
IsExtentOfAll cs (Some e) = (list_any has_variable_fault cs ≡ false) × (e ≡ whole child_extent cs)
