-- What is told of a part of a document: the first fault of a document in which nothing else stands, but for the variable definitions
-- around the part. Names, versions, lists and the like are judged by themselves.
use Rattle.std.specs.Prelude.{ℕ, suc, List, [], ◌∷◌, get_or, slice_set, Bool, true, false, not, Option, Some, None, is_some, option_map, Result, Ok, Err, codes, bytes_eq, if◌then◌else◌, map}
use Rattle.serde_json.specs.Data as json
use Rattle.serde_json.specs.Data.{Data, Items}
use Rattle.serde_json.specs.Find.{as_array, as_bool, as_str}
use Rattle.ent_values.specs.Types.{type_of}
use Rattle.ent_combine.specs.Identifiers.{rule_algorithm_of, policy_algorithm_of}
use Rattle.ent_functions.specs.Identifiers.{function_of}
use Rattle.ent_json.specs.Objects.{one_member, text_at}
use Rattle.ent_policy.specs.declared.document.Effect.TheVariants.{Permit}
use Rattle.ent_policy.specs.declared.fault.DocFault.{DocFault}
use Rattle.ent_policy.specs.declared.fault.DocFault.TheVariants as fault
use Rattle.ent_policy.specs.declared.key.Kind.{Kind}
use Rattle.ent_policy.specs.declared.key.Kind.TheVariants as kind
use Rattle.ent_policy.specs.declared.raw.RawAllOf.{RawAllOf}
use Rattle.ent_policy.specs.declared.raw.RawAnyOf.{RawAnyOf}
use Rattle.ent_policy.specs.declared.raw.RawAssignment.{RawAssignment}
use Rattle.ent_policy.specs.declared.raw.RawChild.{RawChild}
use Rattle.ent_policy.specs.declared.raw.RawChild.TheVariants as child
use Rattle.ent_policy.specs.declared.raw.RawDocument.{RawDocument}
use Rattle.ent_policy.specs.declared.raw.RawDocument.TheVariants as raw
use Rattle.ent_policy.specs.declared.raw.RawExpression.{RawExpression}
use Rattle.ent_policy.specs.declared.raw.RawExpression.TheVariants as expression
use Rattle.ent_policy.specs.declared.raw.RawGivenExpression.{RawGivenExpression}
use Rattle.ent_policy.specs.declared.raw.RawGivenExpressions.{RawGivenExpressions}
use Rattle.ent_policy.specs.declared.raw.RawLiteral.TheVariants as literal
use Rattle.ent_policy.specs.declared.raw.RawMatch.{RawMatch}
use Rattle.ent_policy.specs.declared.raw.RawRule.{RawRule}
use Rattle.ent_policy.specs.declared.raw.RawTarget.{RawTarget}
use Rattle.ent_policy.specs.declared.raw.RawVariableDefinition.{RawVariableDefinition}
use Rattle.ent_policy.specs.Check.{fault_of}
use Rattle.ent_policy.specs.First.{earlier, first_of, if_so}
use Rattle.ent_policy.specs.Limits.{length_fault}
use Rattle.ent_policy.specs.Names.{is_bad_name}
use Rattle.ent_policy.specs.Patterns.{pattern_of}
use Rattle.ent_policy.specs.Versions.{version_of}
use Rattle.ent_polform.specs.Expressions.{expression_named, expression_of, literal_of}
use Rattle.ent_polform.specs.Form.{child_of, definition_of, policy_of, raw_of, rule_of, set_by}
use Rattle.ent_polform.specs.Given.{assignment_of, effect_of, given_by}
use Rattle.ent_polform.specs.Objects.{◌>>=◌}
use Rattle.ent_polform.specs.Reference.{reference_by}
use Rattle.ent_polform.specs.Targets.{match_of, one_all_of, one_any_of, target_of}
use Rattle.lint_places.specs.Led.{led}
use Rattle.lint_places.specs.declared.part.Part.{Part}
use Rattle.lint_places.specs.declared.part.Part.TheVariants as part

-- ---- the variable definitions around a part

-- the definitions of the policy around a part, of which one may be set aside: the one that the part belongs to; and which of them
-- stand, where what is behind the end of the list stands
pub record Scope : Type 0 where
  pub definitions : List Data
  pub aside : Option ℕ
  pub standing : List Bool

-- no policy stands around the part
abbrev pub nowhere : Scope
nowhere = record { definitions = []; aside = None; standing = [] }

-- an id, or a dash where it can't be one
abbrev pub id_or_dash : Option (List ℕ) → List ℕ
id_or_dash None = codes "-"
id_or_dash (Some id) = if is_bad_name id then codes "-" else id

-- a definition that is set aside: true stands in the place of its expression
unfoldable pub set_aside : Data → RawVariableDefinition
set_aside d = record { id = id_or_dash (text_at (codes "VariableId") d); expression = expression.Value (record { datatype = None; literal = literal.Boolean true }) }

-- each of some, read by f, which is given its number; the first has this number
abbrev pub numbered : {A : Type 0} → (ℕ → Data → Result A DocFault) → ℕ → List Data → Result (List A) DocFault
numbered f n [] = Ok []
numbered f n (d ∷ ds) = f n d >>= λ x. numbered f (suc n) ds >>= λ xs. Ok (x ∷ xs)

-- each of some, read by f
abbrev pub each : {A : Type 0} → (Data → Result A DocFault) → List Data → Result (List A) DocFault
each f ds = numbered (λ n. f) 0 ds

-- a definition as read; one that doesn't stand is set aside, and not looked into
abbrev pub variable_by : Bool → Data → Result RawVariableDefinition DocFault
variable_by true d = definition_of d
variable_by false d = Ok (set_aside d)

-- the definition of that number, by which of them stand
abbrev pub variable_at : List Bool → ℕ → Data → Result RawVariableDefinition DocFault
variable_at standing n d = variable_by (get_or standing n true) d

-- some definitions as read, by which of them stand
unfoldable pub variables_of : List Bool → List Data → Result (List RawVariableDefinition) DocFault
variables_of standing ds = numbered (variable_at standing) 0 ds

-- which definitions stand around what belongs to the one of that number: those to which it leads, but itself it is set aside
abbrev pub standing_without : List Data → ℕ → List Bool
standing_without ds n = slice_set (led ds n) n false

-- which stand together with the one that is set aside
abbrev pub standing_with : Option ℕ → List Bool → List Bool
standing_with None standing = standing
standing_with (Some n) standing = slice_set standing n true

-- the variables of a scope
unfoldable pub variables_in : Scope → Result (List RawVariableDefinition) DocFault
variables_in s = variables_of s.standing s.definitions

-- ---- documents in which nothing else stands

-- the first fault of what is read
abbrev pub first_fault : Result RawDocument DocFault → Option DocFault
first_fault (Err f) = Some f
first_fault (Ok d) = fault_of d

-- a target that every request matches
abbrev pub everything : RawTarget
everything = record { any_of = [] }

-- no obligation and no advice
abbrev pub nothing_given : RawGivenExpressions
nothing_given = record { obligations = []; advice = [] }

-- a policy of these parts
unfoldable pub plain_policy : RawTarget → List RawRule → RawGivenExpressions → List RawVariableDefinition → RawDocument
plain_policy target rules given variables = raw.Policy (record {
  id = codes "-";
  version = codes "1";
  algorithm = codes "urn:oasis:names:tc:xacml:3.0:rule-combining-algorithm:deny-overrides";
  target = target;
  variables = variables;
  rules = rules;
  given = given;
})

-- a policy set of these children
unfoldable pub plain_set : List RawChild → RawDocument
plain_set children = raw.Set (record {
  id = codes "-";
  version = codes "1";
  algorithm = codes "urn:oasis:names:tc:xacml:3.0:policy-combining-algorithm:deny-overrides";
  target = everything;
  children = children;
  given = nothing_given;
})

-- policies of nothing but rules, a target, a condition, obligations, advice, assignments, or an expression
unfoldable pub of_rules : List RawRule → List RawVariableDefinition → RawDocument
of_rules rules = plain_policy everything rules nothing_given

unfoldable pub of_target : RawTarget → List RawVariableDefinition → RawDocument
of_target target = plain_policy target [] nothing_given

unfoldable pub of_any_ofs : List RawAnyOf → List RawVariableDefinition → RawDocument
of_any_ofs parts = of_target (record { any_of = parts })

unfoldable pub of_all_ofs : List RawAllOf → List RawVariableDefinition → RawDocument
of_all_ofs parts = of_any_ofs (record { all_of = parts } ∷ [])

unfoldable pub of_matches : List RawMatch → List RawVariableDefinition → RawDocument
of_matches parts = of_all_ofs (record { matches = parts } ∷ [])

unfoldable pub of_condition : RawExpression → List RawVariableDefinition → RawDocument
of_condition e = of_rules (record { id = codes "-"; effect = Permit; target = everything; condition = Some e; given = nothing_given } ∷ [])

unfoldable pub of_obligations : List RawGivenExpression → List RawVariableDefinition → RawDocument
of_obligations given = plain_policy everything [] (record { obligations = given; advice = [] })

unfoldable pub of_advice : List RawGivenExpression → List RawVariableDefinition → RawDocument
of_advice given = plain_policy everything [] (record { obligations = []; advice = given })

unfoldable pub of_assignments : List RawAssignment → List RawVariableDefinition → RawDocument
of_assignments assignments = of_obligations (record { id = codes "-"; effect = Permit; assignments = assignments } ∷ [])

unfoldable pub of_expression : RawExpression → List RawVariableDefinition → RawDocument
of_expression e = of_assignments (record { attribute = codes "-"; category = None; issuer = None; expression = e } ∷ [])

-- the first fault of a policy of what is read, with the variables of a scope
abbrev pub in_policy : {A : Type 0} → (A → List RawVariableDefinition → RawDocument) → Scope → Result A DocFault → Option DocFault
in_policy of scope read = first_fault (read >>= λ x. variables_in scope >>= λ vs. Ok (of x vs))

-- what is told of the variables of a scope, of which some are defined or none
abbrev pub variables_told : List Data → Scope → Option DocFault
variables_told [] s = None
variables_told (d ∷ ds) s = first_fault (variables_in s >>= λ vs. Ok (of_rules [] vs))

-- what is told of the variables of a scope alone: nothing where it has none
unfoldable pub scope_told : Scope → Option DocFault
scope_told s = variables_told s.definitions s

-- what is told of the definition that is set aside, with those to which it leads
unfoldable pub definition_told : Scope → Option DocFault
definition_told s = first_fault (variables_of (standing_with s.aside s.standing) s.definitions >>= λ vs. Ok (of_rules [] vs))

-- what is told of definitions as they stand
unfoldable pub definitions_told : List Data → Option DocFault
definitions_told ds = scope_told (record { definitions = ds; aside = None; standing = [] })

-- ---- lists

-- the members of an array
abbrev pub members_of : Items → List Data
members_of json.no_items = []
members_of (json.item d ds) = d ∷ members_of ds

-- the members of what should be an array
abbrev pub list_of : Data → Option (List Data)
list_of d = option_map members_of (as_array d)

-- what is told of a list by its members
abbrev pub list_told : (List Data → Option DocFault) → Option (List Data) → Option DocFault
list_told f None = Some fault.Form
list_told f (Some ds) = f ds

-- ---- parts of policies and sets

-- of a policy
unfoldable pub policy_told : Data → Option DocFault
policy_told d = first_fault (policy_of d >>= λ p. Ok (raw.Policy p))

-- of a policy set
unfoldable pub set_told : Data → Option DocFault
set_told d = first_fault (set_by child_of d >>= λ p. Ok (raw.Set p))

-- of a target
unfoldable pub target_told : Scope → Data → Option DocFault
target_told s d = in_policy of_target s (target_of d)

unfoldable pub children_told : List Data → Option DocFault
children_told ds = first_fault (each child_of ds >>= λ cs. Ok (plain_set cs))

unfoldable pub reference_told : Kind → Data → Option DocFault
reference_told k d = first_fault (reference_by k d >>= λ r. Ok (plain_set (child.Reference r ∷ [])))

unfoldable pub rules_told : Scope → List Data → Option DocFault
rules_told s ds = in_policy of_rules s (each rule_of ds)

unfoldable pub any_ofs_told : Scope → List Data → Option DocFault
any_ofs_told s ds = in_policy of_any_ofs s (each one_any_of ds)

unfoldable pub all_ofs_told : Scope → List Data → Option DocFault
all_ofs_told s ds = in_policy of_all_ofs s (each one_all_of ds)

unfoldable pub matches_told : Scope → List Data → Option DocFault
matches_told s ds = in_policy of_matches s (each match_of ds)

unfoldable pub obligations_told : Scope → List Data → Option DocFault
obligations_told s ds = in_policy of_obligations s (each (given_by (codes "ObligationId") (codes "FulfillOn")) ds)

unfoldable pub advice_told : Scope → List Data → Option DocFault
advice_told s ds = in_policy of_advice s (each (given_by (codes "AdviceId") (codes "AppliesTo")) ds)

unfoldable pub assignments_told : Scope → List Data → Option DocFault
assignments_told s ds = in_policy of_assignments s (each assignment_of ds)

-- ---- expressions

-- of the expression that has that body at that key
unfoldable pub body_told : List ℕ → Scope → Data → Option DocFault
body_told key s d = in_policy of_expression s (expression_named expression_of key d)

-- of a condition
unfoldable pub condition_told : Scope → Data → Option DocFault
condition_told s d = in_policy of_condition s (expression_of d)

-- of an expression
unfoldable pub whole_told : Scope → Data → Option DocFault
whole_told s d = in_policy of_expression s (expression_of d)

-- of a function's name as read
abbrev pub function_by : Result RawExpression DocFault → Option DocFault
function_by (Ok (expression.Function id)) = if_so (not (is_some (function_of id))) fault.Function
function_by (Ok e) = Some fault.Form
function_by (Err f) = Some f

-- of a function that stands as an argument, which is judged by itself, as it is no value
unfoldable pub function_told : Data → Option DocFault
function_told d = function_by (expression_named expression_of (codes "Function") d)

-- of an argument by its only member
abbrev pub argument_by : Scope → Data → Option (List ℕ × Data) → Option DocFault
argument_by s d None = Some fault.Form
argument_by s d (Some m) = if bytes_eq m.0 (codes "Function") then function_told m.1 else whole_told s d

unfoldable pub argument_told : Scope → Data → Option DocFault
argument_told s d = argument_by s d (one_member d)

unfoldable pub arguments_told : Scope → List Data → Option DocFault
arguments_told s ds = earlier (length_fault ds) (first_of (map (argument_told s) ds))

-- ---- parts

-- of what is read, its fault
abbrev pub fault_of_read : {A : Type 0} → Result A DocFault → Option DocFault
fault_of_read (Err f) = Some f
fault_of_read (Ok x) = None

-- what is told of a text by what it is for
unfoldable pub text_told : Part → List ℕ → Option DocFault
text_told part.Name t = if_so (is_bad_name t) fault.Identifier
text_told part.Version t = if_so (not (is_some (version_of t))) fault.Version
text_told part.Pattern t = if_so (not (is_some (pattern_of t))) fault.Version
text_told part.RuleAlgorithm t = if_so (not (is_some (rule_algorithm_of t))) fault.Algorithm
text_told part.PolicyAlgorithm t = if_so (not (is_some (policy_algorithm_of t))) fault.Algorithm
text_told part.Function t = if_so (not (is_some (function_of t))) fault.Function
text_told part.DataType t = if_so (not (is_some (type_of t))) fault.«Type»
text_told part.Effect t = if_so (not (is_some (effect_of t))) fault.Form
text_told _ t = None

-- of what should be a text: no text is a fault of form
abbrev pub text_by : Part → Option (List ℕ) → Option DocFault
text_by p None = Some fault.Form
text_by p (Some t) = text_told p t

-- of a leaf: a literal (a text, a flag or a whole number of 64 bits), a flag, or a text
unfoldable pub leaf_told : Part → Data → Option DocFault
leaf_told part.Literal d = fault_of_read (literal_of d)
leaf_told part.Flag d = if_so (not (is_some (as_bool d))) fault.Form
leaf_told p d = text_by p (as_str d)

-- what is told of obligations, advice and their assignments, or of a leaf
unfoldable pub given_told : Part → Scope → Data → Option DocFault
given_told part.Obligations s d = list_told (obligations_told s) (list_of d)
given_told part.Obligation s d = obligations_told s (d ∷ [])
given_told part.Advices s d = list_told (advice_told s) (list_of d)
given_told part.Advice s d = advice_told s (d ∷ [])
given_told part.Assignments s d = list_told (assignments_told s) (list_of d)
given_told part.Assignment s d = assignments_told s (d ∷ [])
given_told p s d = leaf_told p d

-- what is told of an expression and its parts, or of those
unfoldable pub expression_told : Part → Scope → Data → Option DocFault
expression_told part.Condition s d = condition_told s d
expression_told part.Expression s d = whole_told s d
expression_told part.Arguments s d = list_told (arguments_told s) (list_of d)
expression_told part.Argument s d = argument_told s d
expression_told part.Value s d = body_told (codes "AttributeValue") s d
expression_told part.Designator s d = body_told (codes "AttributeDesignator") s d
expression_told part.VariableReference s d = body_told (codes "VariableReference") s d
expression_told part.Apply s d = body_told (codes "Apply") s d
expression_told part.FunctionReference s d = function_told d
expression_told p s d = given_told p s d

-- what is told of a target and its parts, or of those
unfoldable pub target_part_told : Part → Scope → Data → Option DocFault
target_part_told part.Target s d = target_told s d
target_part_told part.AnyOfs s d = list_told (any_ofs_told s) (list_of d)
target_part_told part.AnyOf s d = any_ofs_told s (d ∷ [])
target_part_told part.AllOfs s d = list_told (all_ofs_told s) (list_of d)
target_part_told part.AllOf s d = all_ofs_told s (d ∷ [])
target_part_told part.Matches s d = list_told (matches_told s) (list_of d)
target_part_told part.Match s d = matches_told s (d ∷ [])
target_part_told p s d = expression_told p s d

-- what is told of a part in a scope: of a document, a set's children, rules and definitions, or of those
unfoldable pub told : Part → Scope → Data → Option DocFault
told part.Document s d = first_fault (raw_of d)
told part.Policy s d = policy_told d
told part.Set s d = set_told d
told part.Children s d = list_told children_told (list_of d)
told part.Child s d = children_told (d ∷ [])
told part.PolicyReference s d = reference_told kind.Policy d
told part.SetReference s d = reference_told kind.PolicySet d
told part.Rules s d = list_told (rules_told s) (list_of d)
told part.Rule s d = rules_told s (d ∷ [])
told part.Definitions s d = list_told definitions_told (list_of d)
told part.Definition s d = definition_told s
told p s d = target_part_told p s d
