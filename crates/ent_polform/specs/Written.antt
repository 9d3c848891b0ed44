-- The JSON that a document is written as. Absent parts and empty lists are left out; a data type is written as its full URI, that of
-- a value too; MustBePresent is always written. The keys of an object stand in byte order.
use Rattle.std.specs.Prelude.{ℕ, List, map, Option, option_map, codes}
use Rattle.serde_json.specs.Data as json
use Rattle.serde_json.specs.Data.{Data, put}
use Rattle.serde_json.specs.Find.{of_integer}
use Rattle.serde_json.specs.View.{items_of}
use Rattle.ent_values.specs.Types.{datatype_of, uri_of}
use Rattle.ent_values.specs.Writing.{text_of}
use Rattle.ent_values.specs.declared.value.Value.{Value}
use Rattle.ent_values.specs.declared.value.Value.TheVariants as values
use Rattle.ent_combine.specs.Identifiers.{rule_id_of, policy_id_of}
use Rattle.ent_functions.specs.Identifiers.{id_of}
use Rattle.ent_functions.specs.declared.function.Function.{Function}
use Rattle.ent_policy.specs.Children.{as_child}
use Rattle.ent_policy.specs.Patterns.{pattern_text}
use Rattle.ent_policy.specs.Versions.{version_text}
use Rattle.ent_policy.specs.declared.document.AllOf.{AllOf}
use Rattle.ent_policy.specs.declared.document.AnyOf.{AnyOf}
use Rattle.ent_policy.specs.declared.document.Child.{Child}
use Rattle.ent_policy.specs.declared.document.Child.TheOpen.{Child-F, PolicySet-F}
use Rattle.ent_policy.specs.declared.document.Child.TheFolds.{fold-Child}
use Rattle.ent_policy.specs.declared.document.Designator.{Designator}
use Rattle.ent_policy.specs.declared.document.Effect.{Effect}
use Rattle.ent_policy.specs.declared.document.Effect.TheVariants.{Permit, Deny}
use Rattle.ent_policy.specs.declared.document.Match.{Match}
use Rattle.ent_policy.specs.declared.document.Policy.{Policy}
use Rattle.ent_policy.specs.declared.document.Rule.{Rule}
use Rattle.ent_policy.specs.declared.document.Target.{Target}
use Rattle.ent_policy.specs.declared.document.Tree.{Tree}
use Rattle.ent_policy.specs.declared.expression.Expression.{Expression}
use Rattle.ent_policy.specs.declared.expression.Expression.TheOpen.{Expression-F}
use Rattle.ent_policy.specs.declared.expression.Expression.TheFolds.{fold-Expression}
use Rattle.ent_policy.specs.declared.expression.VariableDefinition.{VariableDefinition}
use Rattle.ent_policy.specs.declared.given.AssignmentExpression.{AssignmentExpression}
use Rattle.ent_policy.specs.declared.given.GivenExpression.{GivenExpression}
use Rattle.ent_policy.specs.declared.given.GivenExpressions.{GivenExpressions}
use Rattle.ent_policy.specs.declared.key.Reference.{Reference}
use Rattle.ent_policy.specs.declared.pattern.PatternPart.{PatternPart}
use Rattle.ent_json.specs.Members.{only_member, optional, filled_list, put_optional}
use Rattle.ent_polform.specs.Reference.{reference_key}

-- ---- values and attributes

-- a value: an integer as a number, a boolean as a boolean, every other value as its written text
unfoldable pub value_written : Value → Data
value_written (values.Text text) = json.string (text_of (values.Text text))
value_written (values.Boolean boolean) = json.boolean boolean
value_written (values.Integer integer) = json.number (of_integer integer)
value_written (values.Date date) = json.string (text_of (values.Date date))
value_written (values.AnyUri uri) = json.string (text_of (values.AnyUri uri))
value_written (values.YearMonth duration) = json.string (text_of (values.YearMonth duration))
value_written (values.Time time) = json.string (text_of (values.Time time))
value_written (values.DateTime moment) = json.string (text_of (values.DateTime moment))

-- an AttributeValue (section 5.31)
unfoldable pub literal_written : Value → Data
literal_written value = json.object (
    json.member (codes "DataType") (json.string (uri_of (datatype_of value)))
    (json.member (codes "Value") (value_written value)
    json.no_members))

-- an AttributeDesignator (section 5.29)
unfoldable pub designator_written : Designator → Data
designator_written d = json.object (
    json.member (codes "AttributeId") (json.string d.attribute)
    (json.member (codes "Category") (json.string d.category)
    (json.member (codes "DataType") (json.string (uri_of d.datatype))
    (optional (codes "Issuer") (option_map json.string d.issuer)
    (json.member (codes "MustBePresent") (json.boolean d.must_be_present)
    json.no_members)))))

-- ---- expressions

-- an Apply (section 5.27) of arguments as they are written
abbrev pub apply_written : Function → List Data → Data
apply_written function arguments = json.object (
    optional (codes "Arguments") (filled_list arguments)
    (json.member (codes "FunctionId") (json.string (id_of function))
    json.no_members))

-- one level of an expression (section 5.25), with each argument as it is written
abbrev pub expression_step : Expression-F Data → Data
expression_step (Expression-F.Value value) = only_member (codes "AttributeValue") (literal_written value)
expression_step (Expression-F.Designator designator) = only_member (codes "AttributeDesignator") (designator_written designator)
expression_step (Expression-F.Variable id) = only_member (codes "VariableReference") (only_member (codes "VariableId") (json.string id))
expression_step (Expression-F.Apply function arguments) = only_member (codes "Apply") (apply_written function arguments)
expression_step (Expression-F.Function function) = only_member (codes "Function") (only_member (codes "FunctionId") (json.string (id_of function)))

-- an expression
abbrev pub expression_written : Expression → Data
expression_written = fold-Expression Data expression_step

-- ---- targets

-- a Match (section 5.9)
unfoldable pub match_written : Match → Data
match_written m = json.object (
    json.member (codes "AttributeDesignator") (designator_written m.designator)
    (json.member (codes "AttributeValue") (literal_written m.literal)
    (json.member (codes "MatchId") (json.string (id_of m.function))
    json.no_members)))

-- a member of AllOf (section 5.8)
unfoldable pub all_of_written : AllOf → Data
all_of_written a = only_member (codes "Match") (json.array (items_of (map match_written a.matches)))

-- a member of AnyOf (section 5.7)
unfoldable pub any_of_written : AnyOf → Data
any_of_written a = only_member (codes "AllOf") (json.array (items_of (map all_of_written a.all_of)))

-- a Target (section 5.6), which is left out where it has no AnyOf
unfoldable pub target_written : Target → Option Data
target_written t = option_map (only_member (codes "AnyOf")) (filled_list (map any_of_written t.any_of))

-- ---- obligations and advice, which have the same parts under keys of their own

-- the word of an Effect (section 5.22)
abbrev pub effect_word : Effect → List ℕ
effect_word Permit = codes "Permit"
effect_word Deny = codes "Deny"

-- an AttributeAssignmentExpression (section 5.41)
unfoldable pub assignment_written : AssignmentExpression → Data
assignment_written a = json.object (
    json.member (codes "AttributeId") (json.string a.attribute)
    (optional (codes "Category") (option_map json.string a.category)
    (json.member (codes "Expression") (expression_written a.expression)
    (optional (codes "Issuer") (option_map json.string a.issuer)
    json.no_members))))

-- an ObligationExpression (section 5.39) or an AdviceExpression (section 5.40), its id and its effect put at these keys
unfoldable pub given_written : List ℕ → List ℕ → GivenExpression → Data
given_written id_key effect_key g = json.object (
    put id_key (json.string g.id)
    (put effect_key (json.string (effect_word g.effect))
    (put_optional (codes "AttributeAssignmentExpression") (filled_list (map assignment_written g.assignments))
    json.no_members)))

-- ObligationExpressions (section 5.37), left out where there is none
abbrev pub obligations_written : GivenExpressions → Option Data
obligations_written g = filled_list (map (given_written (codes "ObligationId") (codes "FulfillOn")) g.obligations)

-- AdviceExpressions (section 5.38), left out where there is none
abbrev pub advice_written : GivenExpressions → Option Data
advice_written g = filled_list (map (given_written (codes "AdviceId") (codes "AppliesTo")) g.advice)

-- ---- rules and policies

-- a VariableDefinition (section 5.23)
unfoldable pub definition_written : VariableDefinition → Data
definition_written d = json.object (
    json.member (codes "Expression") (expression_written d.expression)
    (json.member (codes "VariableId") (json.string d.id)
    json.no_members))

-- a Rule (section 5.21)
unfoldable pub rule_written : Rule → Data
rule_written r = json.object (
    optional (codes "AdviceExpressions") (advice_written r.given)
    (optional (codes "Condition") (option_map expression_written r.condition)
    (json.member (codes "Effect") (json.string (effect_word r.effect))
    (optional (codes "ObligationExpressions") (obligations_written r.given)
    (json.member (codes "RuleId") (json.string r.id)
    (optional (codes "Target") (target_written r.target)
    json.no_members))))))

-- a Policy (section 5.14)
unfoldable pub policy_written : Policy → Data
policy_written p = json.object (
    optional (codes "AdviceExpressions") (advice_written p.given)
    (optional (codes "ObligationExpressions") (obligations_written p.given)
    (json.member (codes "PolicyId") (json.string p.id)
    (optional (codes "Rule") (filled_list (map rule_written p.rules))
    (json.member (codes "RuleCombiningAlgId") (json.string (rule_id_of p.algorithm))
    (optional (codes "Target") (target_written p.target)
    (optional (codes "VariableDefinition") (filled_list (map definition_written p.variables))
    (json.member (codes "Version") (json.string (version_text p.version))
    json.no_members))))))))

-- ---- policy sets and documents

-- a version pattern (section 5.13)
abbrev pub pattern_written : List PatternPart → Data
pattern_written pattern = json.string (pattern_text pattern)

-- the id and the constraints of a reference
abbrev pub reference_body : Reference → Data
reference_body r = json.object (
    optional (codes "EarliestVersion") (option_map pattern_written r.constraints.earliest)
    (json.member (codes "Id") (json.string r.id)
    (optional (codes "LatestVersion") (option_map pattern_written r.constraints.latest)
    (optional (codes "Version") (option_map pattern_written r.constraints.version)
    json.no_members))))

-- a PolicyIdReference (section 5.11) or a PolicySetIdReference (section 5.10)
unfoldable pub reference_written : Reference → Data
reference_written r = only_member (reference_key r.kind) (reference_body r)

-- a PolicySet (section 5.1), with its children as they are written
abbrev pub set_with : PolicySet-F Data Data → Data
set_with s = json.object (
    optional (codes "AdviceExpressions") (advice_written s.given)
    (optional (codes "Children") (filled_list s.children)
    (optional (codes "ObligationExpressions") (obligations_written s.given)
    (json.member (codes "PolicyCombiningAlgId") (json.string (policy_id_of s.algorithm))
    (json.member (codes "PolicySetId") (json.string s.id)
    (optional (codes "Target") (target_written s.target)
    (json.member (codes "Version") (json.string (version_text s.version))
    json.no_members)))))))

-- one level of a child of a set, with a set as it is written
abbrev pub child_step : Child-F Data Data → Data
child_step (Child-F.Policy policy) = only_member (codes "Policy") (policy_written policy)
child_step (Child-F.Set set) = only_member (codes "PolicySet") set
child_step (Child-F.Reference reference) = reference_written reference

-- a child of a set
abbrev pub child_written : Child → Data
child_written = fold-Child Data Data child_step set_with

-- the JSON that a document is written as
abbrev pub written : Tree → Data
written t = child_written (as_child t)
