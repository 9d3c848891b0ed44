-- The types of expressions, and the documents in which each expression has one.
use Rattle.std.specs.Prelude.{ℕ, List, [], ◌∷◌, Bool, true, false, ◌&&◌, Option, Some, None, is_some, option_map, option_and_then, length}
use Rattle.std.specs.List.{list_all}
use Rattle.ent_values.specs.declared.datatype.DataType.TheVariants.{Boolean}
use Rattle.ent_values.specs.Types.{datatype_of}
use Rattle.ent_functions.specs.declared.types.ArgType.{ArgType}
use Rattle.ent_functions.specs.declared.types.ArgType.TheVariants.{One, Many, Fun}
use Rattle.ent_functions.specs.Types.{result_type_of}
use Rattle.ent_policy.specs.declared.expression.Expression.{Expression}
use Rattle.ent_policy.specs.declared.expression.Expression.TheOpen.{Expression-F}
use Rattle.ent_policy.specs.declared.expression.Expression.TheFolds.{fold-Expression}
use Rattle.ent_policy.specs.declared.expression.VariableDefinition.{VariableDefinition}
use Rattle.ent_policy.specs.declared.document.Child.{Child}
use Rattle.ent_policy.specs.declared.document.Child.TheOpen.{Child-F, PolicySet-F}
use Rattle.ent_policy.specs.declared.document.Child.TheFolds.{fold-Child}
use Rattle.ent_policy.specs.declared.document.Policy.{Policy}
use Rattle.ent_policy.specs.declared.document.Rule.{Rule}
use Rattle.ent_policy.specs.declared.document.Target.{Target}
use Rattle.ent_policy.specs.declared.document.AnyOf.{AnyOf}
use Rattle.ent_policy.specs.declared.document.AllOf.{AllOf}
use Rattle.ent_policy.specs.declared.document.Match.{Match}
use Rattle.ent_policy.specs.declared.given.AssignmentExpression.{AssignmentExpression}
use Rattle.ent_policy.specs.declared.given.GivenExpression.{GivenExpression}
use Rattle.ent_policy.specs.declared.given.GivenExpressions.{GivenExpressions}
use Rattle.ent_policy.specs.Variables.{followed}

-- ---- expressions

-- all types, if each argument has one
abbrev pub all_typed : List (Option ArgType) → Option (List ArgType)
all_typed [] = Some []
all_typed (None ∷ types) = None
all_typed (Some t ∷ types) = option_map (λ ts. t ∷ ts) (all_typed types)

-- the type of one level, where `refer` gives that of a variable, with each argument already seen as its type
abbrev pub type_step : (List ℕ → Option ArgType) → Expression-F (Option ArgType) → Option ArgType
type_step refer (Expression-F.Value value) = Some (One (datatype_of value))
type_step refer (Expression-F.Designator designator) = Some (Many designator.datatype)
type_step refer (Expression-F.Variable id) = refer id
type_step refer (Expression-F.Apply function arguments) = option_and_then (result_type_of function) (all_typed arguments)
type_step refer (Expression-F.Function function) = Some (Fun function)

-- the type of an expression, where `refer` gives that of a variable
abbrev pub type_with : (List ℕ → Option ArgType) → Expression → Option ArgType
type_with refer = fold-Expression (Option ArgType) (type_step refer)

-- a type that a variable may have: a value or a bag, but no function
abbrev pub held : Option ArgType → Option ArgType
held None = None
held (Some (One t)) = Some (One t)
held (Some (Many t)) = Some (Many t)
held (Some (Fun f)) = None

-- the type of a definition: that of its expression, if a variable may have it
abbrev pub definition_type : (List ℕ → Option ArgType) → Expression → Option ArgType
definition_type refer e = held (type_with refer e)

-- the type of a variable through at most this many references
abbrev pub variable_type : List VariableDefinition → ℕ → List ℕ → Option ArgType
variable_type = followed definition_type None

-- the type of an expression among the definitions of its policy: none leads through more references than there are definitions
abbrev pub type_in : List VariableDefinition → Expression → Option ArgType
type_in definitions e = type_with (variable_type definitions (length definitions)) e

-- ---- targets

-- one boolean
abbrev pub is_boolean : Option ArgType → Bool
is_boolean (Some (One Boolean)) = true
is_boolean _ = false

-- the function gives a boolean for the literal and a value of the attribute (section 7.6)
unfoldable pub match_is_typed : Match → Bool
match_is_typed m = is_boolean (result_type_of m.function (One (datatype_of m.literal) ∷ One m.designator.datatype ∷ []))

-- each match of an AllOf
unfoldable pub all_of_is_typed : AllOf → Bool
all_of_is_typed a = list_all match_is_typed a.matches

-- each match of an AnyOf
unfoldable pub any_of_is_typed : AnyOf → Bool
any_of_is_typed a = list_all all_of_is_typed a.all_of

-- each match of a target
unfoldable pub target_is_typed : Target → Bool
target_is_typed t = list_all any_of_is_typed t.any_of

-- ---- policies and sets

-- a definition gives a value or a bag, whether it is used or not
unfoldable pub definition_is_typed : List VariableDefinition → VariableDefinition → Bool
definition_is_typed definitions d = is_some (held (type_in definitions d.expression))

-- a condition gives one boolean (section 5.26)
unfoldable pub condition_is_typed : List VariableDefinition → Option Expression → Bool
condition_is_typed definitions None = true
condition_is_typed definitions (Some e) = is_boolean (type_in definitions e)

-- an assignment gives a value or a bag (section 5.41)
unfoldable pub assignment_is_typed : List VariableDefinition → AssignmentExpression → Bool
assignment_is_typed definitions a = is_some (held (type_in definitions a.expression))

-- each assignment of an obligation or an advice
unfoldable pub given_expression_is_typed : List VariableDefinition → GivenExpression → Bool
given_expression_is_typed definitions g = list_all (assignment_is_typed definitions) g.assignments

-- each assignment of obligations and advice
unfoldable pub given_is_typed : List VariableDefinition → GivenExpressions → Bool
given_is_typed definitions g = list_all (given_expression_is_typed definitions) g.obligations && list_all (given_expression_is_typed definitions) g.advice

-- a rule's target, condition, obligations and advice
unfoldable pub rule_is_typed : List VariableDefinition → Rule → Bool
rule_is_typed definitions r = target_is_typed r.target && condition_is_typed definitions r.condition && given_is_typed definitions r.given

-- a policy's target, definitions, rules, obligations and advice
unfoldable pub policy_is_typed : Policy → Bool
policy_is_typed p = target_is_typed p.target && list_all (definition_is_typed p.variables) p.variables && list_all (rule_is_typed p.variables) p.rules
    && given_is_typed p.variables p.given

-- one level of a child, with a set already seen
abbrev pub child_step : Child-F Bool Bool → Bool
child_step (Child-F.Policy policy) = policy_is_typed policy
child_step (Child-F.Set set) = set
child_step (Child-F.Reference reference) = true

-- a set's target, its children, and its obligations and advice, for which no variable is defined
abbrev pub set_step : PolicySet-F Bool Bool → Bool
set_step set = target_is_typed set.target && list_all (λ child. child) set.children && given_is_typed [] set.given

-- each expression of a child has its type
abbrev pub is_typed : Child → Bool
is_typed = fold-Child Bool Bool child_step set_step
