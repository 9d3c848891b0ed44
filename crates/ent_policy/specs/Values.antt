-- The values that stand in a document, and what is true of each.
use Rattle.std.specs.Prelude.{List, [], ◌∷◌, ◌++◌}
use Rattle.std.specs.List.{AllByRecursion, flat_map}
use Rattle.std.specs.Option.{option_to_list}
use Rattle.ent_values.specs.ReadBack.{IsReal}
use Rattle.ent_values.specs.declared.value.Value.{Value}
use Rattle.ent_policy.specs.Children.{as_child}
use Rattle.ent_policy.specs.declared.document.AllOf.{AllOf}
use Rattle.ent_policy.specs.declared.document.AnyOf.{AnyOf}
use Rattle.ent_policy.specs.declared.document.Child.{Child}
use Rattle.ent_policy.specs.declared.document.Child.TheOpen.{Child-F, PolicySet-F}
use Rattle.ent_policy.specs.declared.document.Child.TheFolds.{fold-Child}
use Rattle.ent_policy.specs.declared.document.Match.{Match}
use Rattle.ent_policy.specs.declared.document.Policy.{Policy}
use Rattle.ent_policy.specs.declared.document.Rule.{Rule}
use Rattle.ent_policy.specs.declared.document.Target.{Target}
use Rattle.ent_policy.specs.declared.document.Tree.{Tree}
use Rattle.ent_policy.specs.declared.expression.Expression.{Expression}
use Rattle.ent_policy.specs.declared.expression.Expression.TheOpen.{Expression-F}
use Rattle.ent_policy.specs.declared.expression.Expression.TheFolds.{fold-Expression}
use Rattle.ent_policy.specs.declared.expression.VariableDefinition.{VariableDefinition}
use Rattle.ent_policy.specs.declared.given.AssignmentExpression.{AssignmentExpression}
use Rattle.ent_policy.specs.declared.given.GivenExpression.{GivenExpression}
use Rattle.ent_policy.specs.declared.given.GivenExpressions.{GivenExpressions}

-- the members of all lists
abbrev pub joined : {A : Type 0} → List (List A) → List A
joined lists = flat_map (λ l. l) lists

-- the values in one level of an expression, with those of each argument already seen
abbrev pub values_here : Expression-F (List Value) → List Value
values_here (Expression-F.Value value) = value ∷ []
values_here (Expression-F.Designator designator) = []
values_here (Expression-F.Variable id) = []
values_here (Expression-F.Apply function arguments) = joined arguments
values_here (Expression-F.Function function) = []

-- the values in an expression
abbrev pub expression_values : Expression → List Value
expression_values = fold-Expression (List Value) values_here

-- the value in a match
abbrev pub match_values : Match → List Value
match_values m = m.literal ∷ []

-- the values in an AllOf
abbrev pub all_of_values : AllOf → List Value
all_of_values a = flat_map match_values a.matches

-- the values in an AnyOf
abbrev pub any_of_values : AnyOf → List Value
any_of_values a = flat_map all_of_values a.all_of

-- the values in a target
abbrev pub target_values : Target → List Value
target_values t = flat_map any_of_values t.any_of

-- the values in a variable's definition
abbrev pub definition_values : VariableDefinition → List Value
definition_values d = expression_values d.expression

-- the value in an assignment's expression
abbrev pub assignment_values : AssignmentExpression → List Value
assignment_values a = expression_values a.expression

-- the values in an obligation expression or an advice expression
abbrev pub values_given : GivenExpression → List Value
values_given g = flat_map assignment_values g.assignments

-- the values in both sorts
abbrev pub given_values : GivenExpressions → List Value
given_values g = flat_map values_given g.obligations ++ flat_map values_given g.advice

-- the values in a rule
abbrev pub rule_values : Rule → List Value
rule_values r = target_values r.target ++ (flat_map expression_values (option_to_list r.condition) ++ given_values r.given)

-- the values in a policy
abbrev pub policy_values : Policy → List Value
policy_values p = target_values p.target ++ (flat_map definition_values p.variables ++ (flat_map rule_values p.rules ++ given_values p.given))

-- the values in one level of a child of a set, with those of a set already seen
abbrev pub values_in_level : Child-F (List Value) (List Value) → List Value
values_in_level (Child-F.Policy policy) = policy_values policy
values_in_level (Child-F.Set set) = set
values_in_level (Child-F.Reference reference) = []

-- the values in a set
abbrev pub values_in_set : PolicySet-F (List Value) (List Value) → List Value
values_in_set set = target_values set.target ++ (joined set.children ++ given_values set.given)

-- the values in a child of a set
abbrev pub child_values : Child → List Value
child_values = fold-Child (List Value) (List Value) values_in_level values_in_set

-- every value of a document
abbrev pub document_values : Tree → List Value
document_values t = child_values (as_child t)

-- each value of a document is what its type says: an integer is within signed 64 bits, a date is a day of the calendar, a time is one of
-- a day
abbrev pub HoldsWithin : Tree → Type 0
HoldsWithin t = AllByRecursion IsReal (document_values t)
