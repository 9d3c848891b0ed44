-- What is read of a document: its tree, and the first fault of a name or a value in it that can't be read. Where there is one, a
-- stand-in is in its place, so that the other faults are looked for in the tree.
use Rattle.std.specs.Prelude.{ℕ, ℤ, List, [], ◌∷◌, Bool, false, Option, Some, None, map, codes, if◌then◌else◌, option_and_then}
use Rattle.ent_values.specs.declared.datatype.DataType.{DataType}
use Rattle.ent_values.specs.declared.datatype.DataType.TheVariants as types
use Rattle.ent_values.specs.declared.value.Value.{Value}
use Rattle.ent_values.specs.declared.value.Value.TheVariants as values
use Rattle.ent_values.specs.Reading.{is_within_64_bits, value_of}
use Rattle.ent_values.specs.Types.{type_of}
use Rattle.ent_combine.specs.Identifiers.{rule_algorithm_of, policy_algorithm_of}
use Rattle.ent_combine.specs.declared.outcome.RuleAlg.{RuleAlg}
use Rattle.ent_combine.specs.declared.outcome.RuleAlg.TheVariants.{DenyOverrides}
use Rattle.ent_combine.specs.declared.outcome.PolicyAlg.{PolicyAlg}
use Rattle.ent_combine.specs.declared.outcome.PolicyAlg.TheVariants.{OnlyOne}
use Rattle.ent_functions.specs.declared.function.Function.{Function}
use Rattle.ent_functions.specs.declared.function.Function.TheVariants as functions
use Rattle.ent_functions.specs.Identifiers.{function_of}
use Rattle.ent_policy.specs.declared.document.Child.{Child}
use Rattle.ent_policy.specs.declared.document.Child.TheVariants as child
use Rattle.ent_policy.specs.declared.document.Tree.{Tree}
use Rattle.ent_policy.specs.declared.document.Tree.TheVariants as tree
use Rattle.ent_policy.specs.declared.document.PolicySet.{PolicySet}
use Rattle.ent_policy.specs.declared.document.Policy.{Policy}
use Rattle.ent_policy.specs.declared.document.Rule.{Rule}
use Rattle.ent_policy.specs.declared.document.Target.{Target}
use Rattle.ent_policy.specs.declared.document.AnyOf.{AnyOf}
use Rattle.ent_policy.specs.declared.document.AllOf.{AllOf}
use Rattle.ent_policy.specs.declared.document.Match.{Match}
use Rattle.ent_policy.specs.declared.document.Designator.{Designator}
use Rattle.ent_policy.specs.declared.expression.Expression.{Expression}
use Rattle.ent_policy.specs.declared.expression.Expression.TheVariants as expressions
use Rattle.ent_policy.specs.declared.expression.VariableDefinition.{VariableDefinition}
use Rattle.ent_policy.specs.declared.fault.DocFault.{DocFault}
use Rattle.ent_policy.specs.declared.fault.DocFault.TheVariants as faults
use Rattle.ent_policy.specs.declared.raw.RawDocument.{RawDocument}
use Rattle.ent_policy.specs.declared.raw.RawDocument.TheVariants as raw
use Rattle.ent_policy.specs.declared.raw.RawChild.{RawChild}
use Rattle.ent_policy.specs.declared.raw.RawChild.TheOpen.{RawChild-F, RawPolicySet-F}
use Rattle.ent_policy.specs.declared.raw.RawChild.TheFolds.{fold-RawChild}
use Rattle.ent_policy.specs.declared.raw.RawReference.{RawReference}
use Rattle.ent_policy.specs.declared.given.AssignmentExpression.{AssignmentExpression}
use Rattle.ent_policy.specs.declared.given.GivenExpression.{GivenExpression}
use Rattle.ent_policy.specs.declared.given.GivenExpressions.{GivenExpressions}
use Rattle.ent_policy.specs.declared.key.Reference.{Reference}
use Rattle.ent_policy.specs.declared.pattern.PatternPart.{PatternPart}
use Rattle.ent_policy.specs.declared.pattern.PatternPart.TheVariants.{Any}
use Rattle.ent_policy.specs.declared.pattern.VersionConstraints.{VersionConstraints}
use Rattle.ent_policy.specs.declared.raw.RawPolicy.{RawPolicy}
use Rattle.ent_policy.specs.declared.raw.RawPolicySet.{RawPolicySet}
use Rattle.ent_policy.specs.declared.raw.RawRule.{RawRule}
use Rattle.ent_policy.specs.declared.raw.RawAssignment.{RawAssignment}
use Rattle.ent_policy.specs.declared.raw.RawGivenExpression.{RawGivenExpression}
use Rattle.ent_policy.specs.declared.raw.RawGivenExpressions.{RawGivenExpressions}
use Rattle.ent_policy.specs.declared.raw.RawVariableDefinition.{RawVariableDefinition}
use Rattle.ent_policy.specs.declared.raw.RawExpression.{RawExpression}
use Rattle.ent_policy.specs.declared.raw.RawExpression.TheOpen.{RawExpression-F}
use Rattle.ent_policy.specs.declared.raw.RawExpression.TheFolds.{fold-RawExpression}
use Rattle.ent_policy.specs.declared.raw.RawTarget.{RawTarget}
use Rattle.ent_policy.specs.declared.raw.RawAnyOf.{RawAnyOf}
use Rattle.ent_policy.specs.declared.raw.RawAllOf.{RawAllOf}
use Rattle.ent_policy.specs.declared.raw.RawMatch.{RawMatch}
use Rattle.ent_policy.specs.declared.raw.RawDesignator.{RawDesignator}
use Rattle.ent_policy.specs.declared.raw.RawLiteral.{RawLiteral}
use Rattle.ent_policy.specs.declared.raw.RawLiteral.TheVariants as literals
use Rattle.ent_policy.specs.declared.raw.RawValue.{RawValue}
use Rattle.ent_policy.specs.declared.read.Read.{Read}
use Rattle.ent_policy.specs.First.{earlier, first_of}
use Rattle.ent_policy.specs.Names.{name_of}
use Rattle.ent_policy.specs.Patterns.{pattern_of}
use Rattle.ent_policy.specs.Versions.{version_of}

-- ---- what is read

-- what is there, without a fault
abbrev pub done : {A : Type 0} → A → Read A
done x = record { value = x; fault = None }

-- what is made of what was read
abbrev pub made : {A B : Type 0} → (A → B) → Read A → Read B
made f x = record { value = f x.value; fault = x.fault }

infixl 10 ◌>>=◌
-- what is read after it, and the fault that is told first
abbrev pub ◌>>=◌ : {A B : Type 0} → Read A → (A → Read B) → Read B
x >>= f = record { value = (f x.value).value; fault = earlier x.fault (f x.value).fault }

-- what is known; or else the fault, and a stand-in
abbrev pub known : {A : Type 0} → A → DocFault → Option A → Read A
known stand_in fault None = record { value = stand_in; fault = Some fault }
known stand_in fault (Some x) = done x

-- all that was read
abbrev pub all_read : {A : Type 0} → List (Read A) → Read (List A)
all_read parts = record { value = map (λ x. x.value) parts; fault = first_of (map (λ x. x.fault) parts) }

-- each part, read
abbrev pub each_read : {A B : Type 0} → (A → Read B) → List A → Read (List B)
each_read f parts = all_read (map f parts)

-- what may be absent, read where it is there
abbrev pub maybe_read : {A B : Type 0} → (A → Read B) → Option A → Read (Option B)
maybe_read f None = done None
maybe_read f (Some x) = made (λ y. Some y) (f x)

-- ---- names and values

-- a type by its name
abbrev pub type_read : List ℕ → Read DataType
type_read name = known types.Text faults.«Type» (type_of name)

-- a function by its identifier (appendix A.3)
abbrev pub function_read : List ℕ → Read Function
function_read id = known functions.Add faults.Function (function_of id)

-- the algorithm of a policy (appendix C)
abbrev pub rule_algorithm_read : List ℕ → Read RuleAlg
rule_algorithm_read id = known DenyOverrides faults.Algorithm (rule_algorithm_of id)

-- the algorithm of a policy set (appendix C)
abbrev pub policy_algorithm_read : List ℕ → Read PolicyAlg
policy_algorithm_read id = known OnlyOne faults.Algorithm (policy_algorithm_of id)

-- a version (section 5.12)
abbrev pub version_read : List ℕ → Read (List ℕ)
version_read text = known (0 ∷ []) faults.Version (version_of text)

-- the type of a literal that names none: string, boolean or integer, as it is written
abbrev pub written_type : RawLiteral → DataType
written_type (literals.Text text) = types.Text
written_type (literals.Boolean boolean) = types.Boolean
written_type (literals.Integer integer) = types.Integer

-- true and false are values of type boolean alone
abbrev pub boolean_as : Bool → DataType → Option Value
boolean_as boolean types.Boolean = Some (values.Boolean boolean)
boolean_as boolean datatype = None

-- a number is a value of type integer alone
abbrev pub integer_as : ℤ → DataType → Option Value
integer_as integer types.Integer = Some (values.Integer integer)
integer_as integer datatype = None

-- the value of a type that a literal is: a text by the type's lexical form, a number within signed 64 bits, as in a text
unfoldable pub literal_as : RawLiteral → DataType → Option Value
literal_as (literals.Text text) datatype = value_of datatype text
literal_as (literals.Boolean boolean) datatype = boolean_as boolean datatype
literal_as (literals.Integer integer) datatype = if is_within_64_bits integer then integer_as integer datatype else None

-- the type of a value, by its name where it has one
abbrev pub type_of_value : RawLiteral → Option (List ℕ) → Option DataType
type_of_value literal None = Some (written_type literal)
type_of_value literal (Some name) = type_of name

-- a value
unfoldable pub value_read : RawValue → Read Value
value_read v = known (values.Boolean false) faults.«Type» (option_and_then (literal_as v.literal) (type_of_value v.literal v.datatype))

-- ---- expressions

-- a designator, its type by name
unfoldable pub designator_read : RawDesignator → Read Designator
designator_read d = made
    (λ datatype. record { category = d.category; attribute = d.attribute; datatype = datatype; issuer = d.issuer; must_be_present = d.must_be_present })
    (type_read d.datatype)

-- one level of an expression, with each argument already read
abbrev pub expression_step : RawExpression-F (Read Expression) → Read Expression
expression_step (RawExpression-F.Value v) = made (λ value. expressions.Value value) (value_read v)
expression_step (RawExpression-F.Designator d) = made (λ designator. expressions.Designator designator) (designator_read d)
expression_step (RawExpression-F.Variable id) = done (expressions.Variable id)
expression_step (RawExpression-F.Apply id arguments) = do
  function ← function_read id
  all ← all_read arguments
  done (expressions.Apply function all)
expression_step (RawExpression-F.Function id) = made (λ function. expressions.Function function) (function_read id)

-- an expression
abbrev pub expression_read : RawExpression → Read Expression
expression_read = fold-RawExpression (Read Expression) expression_step

-- ---- targets

-- a match
unfoldable pub match_read : RawMatch → Read Match
match_read m = do
  function ← function_read m.function
  literal ← value_read m.literal
  designator ← designator_read m.designator
  done (record { function = function; literal = literal; designator = designator })

-- an AllOf
unfoldable pub all_of_read : RawAllOf → Read AllOf
all_of_read a = made (λ parts. record { matches = parts }) (each_read match_read a.matches)

-- an AnyOf
unfoldable pub any_of_read : RawAnyOf → Read AnyOf
any_of_read a = made (λ parts. record { all_of = parts }) (each_read all_of_read a.all_of)

-- a target
unfoldable pub target_read : RawTarget → Read Target
target_read t = made (λ parts. record { any_of = parts }) (each_read any_of_read t.any_of)

-- ---- policies and sets

-- a variable definition
unfoldable pub definition_read : RawVariableDefinition → Read VariableDefinition
definition_read d = made (λ expression. record { id = d.id; expression = expression }) (expression_read d.expression)

-- an assignment (section 5.41)
unfoldable pub assignment_read : RawAssignment → Read AssignmentExpression
assignment_read a = made (λ expression. record { attribute = a.attribute; category = a.category; issuer = a.issuer; expression = expression }) (expression_read a.expression)

-- an obligation or an advice (sections 5.39 and 5.40)
unfoldable pub given_expression_read : RawGivenExpression → Read GivenExpression
given_expression_read g = made (λ parts. record { id = g.id; effect = g.effect; assignments = parts }) (each_read assignment_read g.assignments)

-- obligations and advice
unfoldable pub given_read : RawGivenExpressions → Read GivenExpressions
given_read g = do
  obligations ← each_read given_expression_read g.obligations
  advice ← each_read given_expression_read g.advice
  done (record { obligations = obligations; advice = advice })

-- a rule
unfoldable pub rule_read : RawRule → Read Rule
rule_read r = do
  target ← target_read r.target
  condition ← maybe_read expression_read r.condition
  given ← given_read r.given
  done (record { id = r.id; effect = r.effect; target = target; condition = condition; given = given })

-- a policy
unfoldable pub policy_read : RawPolicy → Read Policy
policy_read p = do
  version ← version_read p.version
  algorithm ← rule_algorithm_read p.algorithm
  target ← target_read p.target
  variables ← each_read definition_read p.variables
  rules ← each_read rule_read p.rules
  given ← given_read p.given
  done (record { id = p.id; version = version; algorithm = algorithm; target = target; variables = variables; rules = rules; given = given })

-- a version pattern (section 5.13)
abbrev pub pattern_read : List ℕ → Read (List PatternPart)
pattern_read text = known (Any ∷ []) faults.Version (pattern_of text)

-- the versions that a reference accepts
unfoldable pub constraints_read : RawReference → Read VersionConstraints
constraints_read r = do
  version ← maybe_read pattern_read r.version
  earliest ← maybe_read pattern_read r.earliest
  latest ← maybe_read pattern_read r.latest
  done (record { version = version; earliest = earliest; latest = latest })

-- a reference (sections 5.10 and 5.11): its id is a name
unfoldable pub reference_read : RawReference → Read Reference
reference_read r = do
  id ← known (codes "-") faults.Identifier (name_of r.id)
  constraints ← constraints_read r
  done (record { kind = r.kind; id = id; constraints = constraints })

-- one level of a child, with a set already read
abbrev pub child_step : RawChild-F (Read Child) (Read PolicySet) → Read Child
child_step (RawChild-F.Policy p) = made (λ policy. child.Policy policy) (policy_read p)
child_step (RawChild-F.Set s) = made (λ set. child.Set set) s
child_step (RawChild-F.Reference r) = made (λ reference. child.Reference reference) (reference_read r)

-- a set of that name, target, obligations and advice, with its children as they are read
abbrev pub set_of : List ℕ → List ℕ → List ℕ → RawTarget → RawGivenExpressions → Read (List Child) → Read PolicySet
set_of id version algorithm target given children = do
  version ← version_read version
  algorithm ← policy_algorithm_read algorithm
  target ← target_read target
  children ← children
  given ← given_read given
  done (record { id = id; version = version; algorithm = algorithm; target = target; children = children; given = given })

-- a set, with each child already read
abbrev pub set_step : RawPolicySet-F (Read Child) (Read PolicySet) → Read PolicySet
set_step s = set_of s.id s.version s.algorithm s.target s.given (all_read s.children)

-- a child of a set
abbrev pub child_read : RawChild → Read Child
child_read = fold-RawChild (Read Child) (Read PolicySet) child_step set_step

-- a set
abbrev pub set_read : RawPolicySet → Read PolicySet
set_read s = set_of s.id s.version s.algorithm s.target s.given (each_read child_read s.children)

-- a document
abbrev pub document_read : RawDocument → Read Tree
document_read (raw.Policy p) = made (λ policy. tree.Policy policy) (policy_read p)
document_read (raw.Set s) = made (λ set. tree.Set set) (set_read s)
