-- What documents that read back carry: their integers are within 64 bits, and their texts are UTF-8.
use Rattle.std.proofs.Common.{ℕ, List, [], ◌∷◌, ◌++◌, map, Option, Some, None, option_map, codes, IsUtf8}
use Rattle.std.specs.List.{AllByRecursion, flat_map}
use Rattle.std.specs.Option.{option_to_list}
use Rattle.serde_json.specs.Data as json
use Rattle.serde_json.specs.Data.{Data, Members, put}
use Rattle.serde_json.specs.View.{items_of}
use Rattle.ent_json.specs.Members.{filled_list, optional, put_optional}
use Rattle.ent_values.specs.declared.value.Value.{Value}
use Rattle.ent_policy.specs.Values.{assignment_values, definition_values, expression_values, given_values}
use Rattle.ent_policy.specs.Values.{policy_values, rule_values, target_values, values_given}
use Rattle.ent_policy.specs.declared.document.Policy.{Policy}
use Rattle.ent_policy.specs.declared.document.Rule.{Rule}
use Rattle.ent_policy.specs.declared.expression.Expression.{Expression}
use Rattle.ent_policy.specs.declared.expression.VariableDefinition.{VariableDefinition}
use Rattle.ent_policy.specs.declared.given.AssignmentExpression.{AssignmentExpression}
use Rattle.ent_policy.specs.declared.given.GivenExpression.{GivenExpression}
use Rattle.ent_policy.specs.declared.given.GivenExpressions.{GivenExpressions}
use Rattle.ent_polform.specs.Written.{advice_written, assignment_written, definition_written, effect_word}
use Rattle.ent_polform.specs.Written.{expression_written, given_written, obligations_written, policy_written}
use Rattle.ent_polform.specs.Written.{rule_written}
use Rattle.law_restart.proofs.Utf8Data.{AreUtf8Items, AreUtf8Members, IfThere, IsUtf8Data}
use Rattle.law_compared.proofs.GoodFunctions.{IsSmall}

abbrev pub AreSmall : List Value → Type 0
AreSmall = AllByRecursion IsSmall

-- ---- what is written

pub optional_parts : (key : List ℕ) (o : Option Data) (ms : Members) → AreUtf8Members (optional key o ms)
    → IfThere IsUtf8Data o × AreUtf8Members ms
optional_parts key None ms h = (tt, h)
optional_parts key (Some d) ms h = (h.1, h.2)

items_all : (ds : List Data) → AreUtf8Items (items_of ds) → AllByRecursion IsUtf8Data ds
items_all [] h = tt
items_all (d ∷ ds) h = (h.0, items_all ds h.1)

pub filled_all : (ds : List Data) → IfThere IsUtf8Data (filled_list ds) → AllByRecursion IsUtf8Data ds
filled_all [] h = tt
filled_all (d ∷ ds) h = items_all (d ∷ ds) h

pub list_all : (ds : List Data) → IsUtf8Data (json.array (items_of ds)) → AllByRecursion IsUtf8Data ds
list_all ds h = items_all ds h

pub maybe_text : (o : Option (List ℕ)) → IfThere IsUtf8Data (option_map json.string o) → IfThere IsUtf8 o
maybe_text None h = tt
maybe_text (Some s) h = h

-- ---- values

pub small_parts : (xs ys : List Value) → AreSmall (xs ++ ys) → AreSmall xs × AreSmall ys
small_parts [] ys h = (tt, h)
small_parts (x ∷ xs) ys h = let more = small_parts xs ys h.1 in ((h.0, more.0), more.1)

-- each part of a list, by what it carries and what is written of it
each_part : {X : Type 0} (P : X → Type 0) (carried : X → List Value) (write : X → Data)
    → ((x : X) → AreSmall (carried x) → IsUtf8Data (write x) → P x)
    → (xs : List X) → AreSmall (flat_map carried xs) → AllByRecursion IsUtf8Data (map write xs) → AllByRecursion P xs
each_part P carried write good [] small utf8 = tt
each_part P carried write good (x ∷ xs) small utf8 =
    let both = small_parts (carried x) (flat_map carried xs) small in
    (good x both.0 utf8.0, each_part P carried write good xs both.1 utf8.1)

-- ---- parts of policies

-- the values that an expression carries are small, and what is written of it is UTF-8
pub record IsGoodExpression (e : Expression) : Type 0 where
  pub small : AreSmall (expression_values e)
  pub utf8 : IsUtf8Data (expression_written e)

pub record IsGoodAssignment (a : AssignmentExpression) : Type 0 where
  pub attribute : IsUtf8 a.attribute
  pub category : IfThere IsUtf8 a.category
  pub issuer : IfThere IsUtf8 a.issuer
  pub expression : IsGoodExpression a.expression

pub record IsGoodGiven (g : GivenExpression) : Type 0 where
  pub id : IsUtf8 g.id
  pub assignments : AllByRecursion IsGoodAssignment g.assignments

pub record AreGoodGivens (g : GivenExpressions) : Type 0 where
  pub obligations : AllByRecursion IsGoodGiven g.obligations
  pub advice : AllByRecursion IsGoodGiven g.advice

pub record IsGoodRule (r : Rule) : Type 0 where
  pub id : IsUtf8 r.id
  pub condition : IfThere IsGoodExpression r.condition
  pub given : AreGoodGivens r.given

abbrev pub IsGoodDefinition : VariableDefinition → Type 0
IsGoodDefinition d = IsGoodExpression d.expression

pub record IsGoodPolicy (p : Policy) : Type 0 where
  pub id : IsUtf8 p.id
  pub variables : AllByRecursion IsGoodDefinition p.variables
  pub rules : AllByRecursion IsGoodRule p.rules
  pub given : AreGoodGivens p.given

good_assignment : (a : AssignmentExpression) → AreSmall (assignment_values a) → IsUtf8Data (assignment_written a)
    → IsGoodAssignment a
unfolding assignment_written
good_assignment a small utf8 =
    let category = optional_parts (codes "Category") (option_map json.string a.category) _ utf8.2 in
    let issuer = optional_parts (codes "Issuer") (option_map json.string a.issuer) _ category.1.2 in
    record {
      attribute = utf8.1;
      category = maybe_text a.category category.0;
      issuer = maybe_text a.issuer issuer.0;
      expression = record { small = small; utf8 = category.1.1 };
    }

good_assignments : (as_ : List AssignmentExpression) → AreSmall (flat_map assignment_values as_)
    → IfThere IsUtf8Data (filled_list (map assignment_written as_)) → AllByRecursion IsGoodAssignment as_
good_assignments as_ small utf8 = each_part IsGoodAssignment assignment_values assignment_written good_assignment
    as_ small (filled_all (map assignment_written as_) utf8)

good_obligation : (g : GivenExpression) → AreSmall (values_given g)
    → IsUtf8Data (given_written (codes "ObligationId") (codes "FulfillOn") g) → IsGoodGiven g
unfolding given_written
good_obligation g small utf8 =
    let both = by (filled_list (map assignment_written g.assignments)) utf8 in
    record { id = both.0; assignments = good_assignments g.assignments small both.1 }
  where
    by : (o : Option Data)
        → IsUtf8Data
        (json.object (put (codes "ObligationId") (json.string g.id)
        (put (codes "FulfillOn") (json.string (effect_word g.effect))
        (put_optional (codes "AttributeAssignmentExpression") o json.no_members))))
        → IsUtf8 g.id × IfThere IsUtf8Data o
    by None h = (h.2.1, tt)
    by (Some d) h = (h.2.2.1, h.1)

good_advice : (g : GivenExpression) → AreSmall (values_given g)
    → IsUtf8Data (given_written (codes "AdviceId") (codes "AppliesTo") g) → IsGoodGiven g
unfolding given_written
good_advice g small utf8 =
    let both = by (filled_list (map assignment_written g.assignments)) utf8 in
    record { id = both.0; assignments = good_assignments g.assignments small both.1 }
  where
    by : (o : Option Data)
        → IsUtf8Data
        (json.object (put (codes "AdviceId") (json.string g.id)
        (put (codes "AppliesTo") (json.string (effect_word g.effect))
        (put_optional (codes "AttributeAssignmentExpression") o json.no_members))))
        → IsUtf8 g.id × IfThere IsUtf8Data o
    by None h = (h.1, tt)
    by (Some d) h = (h.1, h.2.2.1)

pub good_givens : (g : GivenExpressions) → AreSmall (given_values g) → IfThere IsUtf8Data (advice_written g)
    → IfThere IsUtf8Data (obligations_written g) → AreGoodGivens g
good_givens g small advice obligations =
    let both = small_parts (flat_map values_given g.obligations) (flat_map values_given g.advice) small in
    record {
      obligations = each_part IsGoodGiven values_given (given_written (codes "ObligationId") (codes "FulfillOn"))
          good_obligation g.obligations both.0 (filled_all _ obligations);
      advice = each_part IsGoodGiven values_given (given_written (codes "AdviceId") (codes "AppliesTo")) good_advice
          g.advice both.1 (filled_all _ advice);
    }

good_condition : (o : Option Expression) → AreSmall (flat_map expression_values (option_to_list o))
    → IfThere IsUtf8Data (option_map expression_written o) → IfThere IsGoodExpression o
good_condition None small utf8 = tt
good_condition (Some e) small utf8 = record { small = (small_parts (expression_values e) [] small).0; utf8 = utf8 }

good_rule : (r : Rule) → AreSmall (rule_values r) → IsUtf8Data (rule_written r) → IsGoodRule r
unfolding rule_written
good_rule r small utf8 =
    let rest = small_parts (target_values r.target)
    (flat_map expression_values (option_to_list r.condition) ++ given_values r.given) small in
    let given = small_parts (flat_map expression_values (option_to_list r.condition)) (given_values r.given) rest.1 in
    let advice = optional_parts (codes "AdviceExpressions") (advice_written r.given) _ utf8 in
    let condition = optional_parts (codes "Condition") (option_map expression_written r.condition) _ advice.1 in
    let obligations = optional_parts (codes "ObligationExpressions") (obligations_written r.given) _ condition.1.2 in
    record {
      id = obligations.1.1;
      condition = good_condition r.condition given.0 condition.0;
      given = good_givens
          r.given given.1 advice.0 obligations.0;
    }

good_definition : (d : VariableDefinition) → AreSmall (definition_values d) → IsUtf8Data (definition_written d)
    → IsGoodDefinition d
unfolding definition_written
good_definition d small utf8 = record { small = small; utf8 = utf8.1 }

pub good_policy : (p : Policy) → AreSmall (policy_values p) → IsUtf8Data (policy_written p) → IsGoodPolicy p
unfolding policy_written
good_policy p small utf8 =
    let one = small_parts (target_values p.target)
    (flat_map definition_values p.variables ++ (flat_map rule_values p.rules ++ given_values p.given)) small in
    let two = small_parts (flat_map definition_values p.variables)
    (flat_map rule_values p.rules ++ given_values p.given) one.1 in
    let three = small_parts (flat_map rule_values p.rules) (given_values p.given) two.1 in
    let advice = optional_parts (codes "AdviceExpressions") (advice_written p.given) _ utf8 in
    let obligations = optional_parts (codes "ObligationExpressions") (obligations_written p.given) _ advice.1 in
    let rules = optional_parts (codes "Rule") (filled_list (map rule_written p.rules)) _ obligations.1.2 in
    let target = optional_parts (codes "Target") _ _ rules.1.2 in
    let variables = optional_parts (codes "VariableDefinition") (filled_list (map definition_written p.variables)) _
    target.1 in
    record {
      id = obligations.1.1;
      variables = each_part IsGoodDefinition definition_values definition_written good_definition p.variables two.0
          (filled_all _ variables.0);
      rules = each_part IsGoodRule rule_values rule_written good_rule p.rules three.0 (filled_all _ rules.0);
      given = good_givens p.given three.1 advice.0 obligations.0;
    }
