-- The variables of a policy: which are used, which are defined, and which lead to no end (sections 5.23 and 5.24).
use Rattle.std.specs.Prelude.{◌≡◌, ℕ, zero, suc, List, [], ◌∷◌, ◌++◌, Bool, true, false, not, ◌||◌, Option, Some, None, bytes_eq, find, length, map}
use Rattle.std.specs.List.{flat_map, list_any, list_all}
use Rattle.ent_policy.specs.declared.document.Policy.{Policy}
use Rattle.ent_policy.specs.declared.document.Rule.{Rule}
use Rattle.ent_policy.specs.declared.document.Child.{Child}
use Rattle.ent_policy.specs.declared.document.Child.TheOpen.{Child-F, PolicySet-F}
use Rattle.ent_policy.specs.declared.document.Child.TheFolds.{fold-Child}
use Rattle.ent_policy.specs.declared.expression.Expression.{Expression}
use Rattle.ent_policy.specs.declared.expression.Expression.TheOpen.{Expression-F}
use Rattle.ent_policy.specs.declared.expression.Expression.TheFolds.{fold-Expression}
use Rattle.ent_policy.specs.declared.expression.VariableDefinition.{VariableDefinition}
use Rattle.ent_policy.specs.declared.given.AssignmentExpression.{AssignmentExpression}
use Rattle.ent_policy.specs.declared.given.GivenExpression.{GivenExpression}
use Rattle.ent_policy.specs.declared.given.GivenExpressions.{GivenExpressions}
use Rattle.ent_policy.specs.Limits.{has_double, is_among}

-- one level of an expression, with the variables of each argument
abbrev pub variables_step : Expression-F (List (List ℕ)) → List (List ℕ)
variables_step (Expression-F.Value value) = []
variables_step (Expression-F.Designator designator) = []
variables_step (Expression-F.Variable id) = id ∷ []
variables_step (Expression-F.Apply function arguments) = flat_map (λ ids. ids) arguments
variables_step (Expression-F.Function function) = []

-- the variables that an expression uses
abbrev pub variables : Expression → List (List ℕ)
variables = fold-Expression (List (List ℕ)) variables_step

-- those that an optional expression uses
abbrev pub condition_variables : Option Expression → List (List ℕ)
condition_variables None = []
condition_variables (Some e) = variables e

-- those that an assignment uses
abbrev pub assignment_variables : AssignmentExpression → List (List ℕ)
assignment_variables a = variables a.expression

-- those that an obligation or an advice uses
abbrev pub given_expression_variables : GivenExpression → List (List ℕ)
given_expression_variables g = flat_map assignment_variables g.assignments

-- those that obligations and advice use
abbrev pub given_variables : GivenExpressions → List (List ℕ)
given_variables g = flat_map given_expression_variables g.obligations ++ flat_map given_expression_variables g.advice

-- those that a rule uses: its condition, its obligations and its advice
abbrev pub rule_variables : Rule → List (List ℕ)
rule_variables r = condition_variables r.condition ++ given_variables r.given

-- those that the rules, the obligations and the advice of a policy use
abbrev pub used : Policy → List (List ℕ)
used p = flat_map rule_variables p.rules ++ given_variables p.given

-- the ids of some definitions
abbrev pub ids_of : List VariableDefinition → List (List ℕ)
ids_of definitions = map (λ d. d.id) definitions

-- ---- references

-- the definition of that identifier
abbrev pub definition_of : List VariableDefinition → List ℕ → Option VariableDefinition
definition_of definitions id = find (λ d. bytes_eq d.id id) definitions

-- what a definition comes to, where there is one
abbrev pub defined : {A : Type 0} → (Expression → A) → A → Option VariableDefinition → A
defined f none None = none
defined f none (Some d) = f d.expression

-- what a variable comes to through at most this many references, where `f` says what an expression comes to by its variables
abbrev pub followed : {A : Type 0} → ((List ℕ → A) → Expression → A) → A → List VariableDefinition → ℕ → List ℕ → A
followed f none definitions zero id = none
followed f none definitions (suc n) id = defined (f (followed f none definitions n)) none (definition_of definitions id)

-- what it comes to: no chain of references is longer than there are definitions, unless a variable leads to itself
abbrev pub variable_by : {A : Type 0} → ((List ℕ → A) → Expression → A) → A → List VariableDefinition → List ℕ → A
variable_by f none definitions id = followed f none definitions (length definitions) id

-- each variable of an expression passes
abbrev pub uses_only : (List ℕ → Bool) → Expression → Bool
uses_only passes e = list_all passes (variables e)

-- whether a variable is defined and leads to defined variables and to an end
abbrev pub is_resolved : List VariableDefinition → List ℕ → Bool
is_resolved definitions id = variable_by uses_only false definitions id

-- what an expression comes to depends on its variables alone
abbrev pub IsLocal : {A : Type 0} → ((List ℕ → A) → Expression → A) → Type 0
IsLocal {A} f = (r s : List ℕ → A) (e : Expression) → ((id : List ℕ) → is_among (variables e) id ≡ true → r id ≡ s id) → f r e ≡ f s e

-- for a variable that leads to an end, more references change nothing
abbrev pub MoreReferencesChangeNothing : Type 0 → Type 0
MoreReferencesChangeNothing A = (f : (List ℕ → A) → Expression → A) (none : A) → IsLocal f → (definitions : List VariableDefinition) (n : ℕ) (id : List ℕ)
    → followed uses_only false definitions n id ≡ true → followed f none definitions n id ≡ followed f none definitions (suc n) id

-- a variable that leads to an end through any number of references leads there through as many as there are definitions
abbrev pub EndsByDefinitions : Type 0
EndsByDefinitions = (definitions : List VariableDefinition) (n : ℕ) (id : List ℕ)
    → followed uses_only false definitions n id ≡ true → is_resolved definitions id ≡ true

-- ---- faults

-- a variable is defined twice, or one that is defined or used leads to itself or to one that isn't defined
unfoldable pub has_bad_variable : Policy → Bool
has_bad_variable p = has_double (ids_of p.variables)
    || not (list_all (is_resolved p.variables) (ids_of p.variables))
    || not (list_all (is_resolved p.variables) (used p))

-- one level of a child, with a set already seen
abbrev pub variables_of_child : Child-F Bool Bool → Bool
variables_of_child (Child-F.Policy policy) = has_bad_variable policy
variables_of_child (Child-F.Set set) = set
variables_of_child (Child-F.Reference reference) = false

-- a set, with each child already seen: for its obligations and advice no variable is defined
abbrev pub variables_of_set : PolicySet-F Bool Bool → Bool
variables_of_set set = list_any (λ child. child) set.children || not (list_all (is_resolved []) (given_variables set.given))

-- a policy or a set of a child has a variable that is defined twice, not at all, or through itself
abbrev pub has_variable_fault : Child → Bool
has_variable_fault = fold-Child Bool Bool variables_of_child variables_of_set
