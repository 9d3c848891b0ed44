-- The limits of a document's parts: which is exceeded first, each over the whole document.
use Rattle.std.specs.Prelude.{ℕ, List, [], ◌∷◌, Bool, false, ◌==◌, ◌||◌, Option, Some, None, bytes_eq, if◌then◌else◌, length, map, nat_lt}
use Rattle.std.specs.List.{list_any}
use Rattle.ent_policy.specs.declared.document.Child.{Child}
use Rattle.ent_policy.specs.declared.document.Child.TheOpen.{Child-F, PolicySet-F}
use Rattle.ent_policy.specs.declared.document.Child.TheFolds.{fold-Child}
use Rattle.ent_policy.specs.declared.document.Policy.{Policy}
use Rattle.ent_policy.specs.declared.document.Rule.{Rule}
use Rattle.ent_policy.specs.declared.document.Target.{Target}
use Rattle.ent_policy.specs.declared.document.AnyOf.{AnyOf}
use Rattle.ent_policy.specs.declared.document.AllOf.{AllOf}
use Rattle.ent_policy.specs.declared.document.Match.{Match}
use Rattle.ent_policy.specs.declared.document.Designator.{Designator}
use Rattle.ent_policy.specs.declared.expression.Expression.{Expression}
use Rattle.ent_policy.specs.declared.expression.Expression.TheOpen.{Expression-F}
use Rattle.ent_policy.specs.declared.expression.Expression.TheFolds.{fold-Expression}
use Rattle.ent_policy.specs.declared.expression.VariableDefinition.{VariableDefinition}
use Rattle.ent_policy.specs.declared.fault.DocFault.{DocFault}
use Rattle.ent_policy.specs.declared.fault.DocFault.TheVariants.{Form, Identifier, Size}
use Rattle.ent_policy.specs.declared.given.AssignmentExpression.{AssignmentExpression}
use Rattle.ent_policy.specs.declared.given.GivenExpression.{GivenExpression}
use Rattle.ent_policy.specs.declared.given.GivenExpressions.{GivenExpressions}
use Rattle.ent_policy.specs.First.{earlier, first_of, if_so}
use Rattle.ent_policy.specs.Names.{is_bad_name}

-- ---- names and lists

-- an identifier that has no byte or more than 256 is a fault
abbrev pub name_fault : List ℕ → Option DocFault
name_fault name = if_so (is_bad_name name) Identifier

-- the name is among some
abbrev pub is_among : List (List ℕ) → List ℕ → Bool
is_among names name = list_any (bytes_eq name) names

-- one of the names stands at two places
abbrev pub has_double : List (List ℕ) → Bool
has_double [] = false
has_double (name ∷ names) = is_among names name || has_double names

-- a list has at most 256 members
abbrev pub length_fault : {A : Type 0} → List A → Option DocFault
length_fault parts = if_so (nat_lt 256 (length parts)) Size

-- and one that has to have a member isn't empty (sections 5.7 and 5.8)
abbrev pub filled_fault : {A : Type 0} → List A → Option DocFault
filled_fault parts = if length parts == 0 then Some Form else length_fault parts

-- ---- expressions and targets

-- of what may be absent
abbrev pub maybe_fault : {A : Type 0} → (A → Option DocFault) → Option A → Option DocFault
maybe_fault f None = None
maybe_fault f (Some x) = f x

-- of a designator: its category, attribute and issuer are identifiers
unfoldable pub designator_fault : Designator → Option DocFault
designator_fault d = first_of (name_fault d.category ∷ name_fault d.attribute ∷ maybe_fault name_fault d.issuer ∷ [])

-- of one level of an expression, with those of each argument already seen
abbrev pub expression_limits : Expression-F (Option DocFault) → Option DocFault
expression_limits (Expression-F.Value value) = None
expression_limits (Expression-F.Designator designator) = designator_fault designator
expression_limits (Expression-F.Variable id) = name_fault id
expression_limits (Expression-F.Apply function arguments) = earlier (length_fault arguments) (first_of arguments)
expression_limits (Expression-F.Function function) = None

-- of an expression
abbrev pub expression_fault : Expression → Option DocFault
expression_fault = fold-Expression (Option DocFault) expression_limits

-- of a match
unfoldable pub match_fault : Match → Option DocFault
match_fault m = designator_fault m.designator

-- of an AllOf
unfoldable pub all_of_fault : AllOf → Option DocFault
all_of_fault a = earlier (filled_fault a.matches) (first_of (map match_fault a.matches))

-- of an AnyOf
unfoldable pub any_of_fault : AnyOf → Option DocFault
any_of_fault a = earlier (filled_fault a.all_of) (first_of (map all_of_fault a.all_of))

-- of a target
unfoldable pub target_fault : Target → Option DocFault
target_fault t = earlier (length_fault t.any_of) (first_of (map any_of_fault t.any_of))

-- ---- policies and sets

-- of a variable definition
unfoldable pub definition_fault : VariableDefinition → Option DocFault
definition_fault d = earlier (name_fault d.id) (expression_fault d.expression)

-- of an assignment: its attribute, category and issuer are identifiers
unfoldable pub assignment_fault : AssignmentExpression → Option DocFault
assignment_fault a = first_of (name_fault a.attribute ∷ maybe_fault name_fault a.category ∷ maybe_fault name_fault a.issuer ∷ expression_fault a.expression ∷ [])

-- of an obligation or an advice
unfoldable pub given_expression_fault : GivenExpression → Option DocFault
given_expression_fault g = first_of (name_fault g.id ∷ length_fault g.assignments ∷ first_of (map assignment_fault g.assignments) ∷ [])

-- of obligations and advice
unfoldable pub given_fault : GivenExpressions → Option DocFault
given_fault g = first_of (length_fault g.obligations ∷ length_fault g.advice
    ∷ first_of (map given_expression_fault g.obligations) ∷ first_of (map given_expression_fault g.advice) ∷ [])

-- of a rule
unfoldable pub rule_fault : Rule → Option DocFault
rule_fault r = first_of (name_fault r.id ∷ target_fault r.target ∷ maybe_fault expression_fault r.condition ∷ given_fault r.given ∷ [])

-- two rules of one identifier
abbrev pub has_double_rule : List Rule → Bool
has_double_rule rules = has_double (map (λ r. r.id) rules)

-- of a policy
unfoldable pub policy_fault : Policy → Option DocFault
policy_fault p = first_of (name_fault p.id ∷ if_so (has_double_rule p.rules) Identifier ∷ length_fault p.variables ∷ length_fault p.rules
    ∷ target_fault p.target ∷ first_of (map definition_fault p.variables) ∷ first_of (map rule_fault p.rules) ∷ given_fault p.given ∷ [])

-- of one level of a child, with those of a set already seen: the identifier of a reference is a name
abbrev pub child_limits : Child-F (Option DocFault) (Option DocFault) → Option DocFault
child_limits (Child-F.Policy policy) = policy_fault policy
child_limits (Child-F.Set set) = set
child_limits (Child-F.Reference reference) = None

-- of a set, with those of each child already seen
abbrev pub set_limits : PolicySet-F (Option DocFault) (Option DocFault) → Option DocFault
set_limits s = first_of (name_fault s.id ∷ length_fault s.children ∷ target_fault s.target ∷ first_of s.children ∷ given_fault s.given ∷ [])

-- the first limit that is exceeded in a child
abbrev pub limit_fault : Child → Option DocFault
limit_fault = fold-Child (Option DocFault) (Option DocFault) child_limits set_limits
