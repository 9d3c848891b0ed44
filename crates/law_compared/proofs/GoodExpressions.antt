-- What an expression comes to reads back, if what is held does.
use Rattle.std.proofs.Common.{◌≡◌, ℕ, zero, suc, Bool, true, false, cond, List, [], ◌∷◌, map, Option, Some, None}
use Rattle.std.proofs.Common.{refl, sym, subst, codes, ◌∙◌, IsUtf8}
use Rattle.std.specs.Prelude.{Result, Ok, Err, find, unwrap_or}
use Rattle.std.specs.List.{AllByRecursion, flat_map}
use Rattle.std.specs.Str.{bytes_eq}
use Rattle.std.proofs.lemmas.List.Folds.{flat_map-map}
use Rattle.serde_json.specs.Data.{Data}
use Rattle.ent_values.specs.declared.datatype.DataType.TheVariants as types
use Rattle.ent_values.specs.declared.value.Value.{Value}
use Rattle.ent_values.specs.declared.value.Value.TheVariants as values
use Rattle.ent_json.specs.Members.{filled_list}
use Rattle.ent_functions.specs.Applied.{applied}
use Rattle.ent_functions.specs.declared.arg.Arg.{Arg}
use Rattle.ent_functions.specs.declared.arg.Arg.TheVariants.{One, Many, Fun}
use Rattle.ent_functions.specs.declared.arg.Fault.{Fault}
use Rattle.ent_functions.specs.declared.arg.Fault.TheVariants.{DivideByZero}
use Rattle.ent_functions.specs.declared.function.Function.{Function}
use Rattle.ent_policy.specs.Values.{document_values, expression_values, values_here}
use Rattle.ent_policy.specs.Variables.{definition_of}
use Rattle.ent_policy.specs.declared.document.Designator.{Designator}
use Rattle.ent_policy.specs.declared.document.Rule.{Rule}
use Rattle.ent_policy.specs.declared.document.Tree.{Tree}
use Rattle.ent_policy.specs.declared.expression.Expression.{Expression}
use Rattle.ent_policy.specs.declared.expression.Expression.TheFolds.{fold-roll-Expression, ind-Expression}
use Rattle.ent_policy.specs.declared.expression.Expression.TheFolds.{map-Expression}
use Rattle.ent_policy.specs.declared.expression.Expression.TheOpen.{Expression-F}
use Rattle.ent_policy.specs.declared.expression.Expression.TheViews.{roll-Expression}
use Rattle.ent_policy.specs.declared.expression.VariableDefinition.{VariableDefinition}
use Rattle.ent_policy.specs.declared.given.AssignmentExpression.{AssignmentExpression}
use Rattle.ent_policy.specs.declared.key.DocKey.{DocKey}
use Rattle.ent_policy.specs.declared.key.Reference.{Reference}
use Rattle.ent_polform.specs.Written.{expression_step, expression_written, literal_written, value_written, written}
use Rattle.ent_finder.specs.declared.row.AttrKey.{AttrKey}
use Rattle.ent_walk.specs.Expression.{arguments_of, bag_of, defined_part, evaluated_of, is_result, meaning}
use Rattle.ent_walk.specs.Expression.{meaning_step, meaning_with, result_of, variable_part}
use Rattle.ent_request.specs.Looks.{Looks}
use Rattle.ent_request.specs.Own.{is_empty, own_values}
use Rattle.ent_request.specs.Part.{Part, values as values_of_parts}
use Rattle.ent_request.specs.Sources.{asks_for, designated_values, entity_of, entity_values, known_values, source_values}
use Rattle.ent_request.specs.Uris as uris
use Rattle.ent_walk.specs.Given.{assigned, assignment_of}
use Rattle.ent_walk.specs.Rule.{decided, truth_of}
use Rattle.ent_request.specs.declared.request.Request.{Request}
use Rattle.law_restart.proofs.Utf8Data.{IsUtf8Data}
use Rattle.law_compared.proofs.GoodTold.{IfAll, IsGoodAnswer, IsToldAssignment, IsToldEntry, IsToldPath, either}
use Rattle.law_compared.proofs.GoodTold.{none_good}
use Rattle.law_compared.proofs.GoodFunctions.{AreGood, IsGood, IsGoodArg, IsGoodResult, applied_good}
use Rattle.law_compared.proofs.GoodParts.{AreSmall, IsGoodAssignment, IsGoodDefinition, IsGoodExpression}
use Rattle.law_compared.proofs.GoodParts.{filled_all, optional_parts, small_parts}

-- a document that reads back
pub record IsGoodTree (t : Tree) : Type 0 where
  pub small : AreSmall (document_values t)
  pub utf8 : IsUtf8Data (written t)

-- what look-ups give reads back
pub record AreGoodLooks (looks : Looks) : Type 0 where
  pub documents : (r : Reference) (t : Tree) → looks.document r ≡ Some t → IsGoodTree t
  pub found : (key : AttrKey) → AreGood (looks.values key)
  pub date : AreGood (known_values values.Date looks.date)
  pub time : AreGood (known_values values.Time looks.time)
  pub date_time : AreGood (known_values values.DateTime looks.date_time)

-- and so do the values of a request
abbrev pub IsGoodRequest : Request → Type 0
IsGoodRequest request = (d : Designator) → AreGood (own_values d request)

-- what a function gives
abbrev pub given_by : {A B : Type 0} → (A → B) → Type 0
given_by {A} {B} f = B

-- what an expression comes to
abbrev pub Evaluated : Type 0
Evaluated = given_by evaluated_of

-- What is made of it reads back: the assignments of its values, the arguments of a function, and what a rule comes
-- to of which it is the condition
pub record IsGoodEvaluated (e : Evaluated) : Type 0 where
  pub assigns : (a : AssignmentExpression) → IsGoodAssignment a → IfAll IsToldAssignment (assigned a e)
  pub argues : (vs : List Evaluated) → AllByRecursion IsGoodArg (arguments_of vs)
      → AllByRecursion IsGoodArg (arguments_of (e ∷ vs))
  pub decides : (path : List DocKey) (rule : Rule) → IsToldPath path → IsUtf8 rule.id
      → IsGoodAnswer (decided path rule (truth_of e))

-- ---- what a rule comes to

rule_applies : (path : List DocKey) (rule : Rule) → IsToldPath path → IsUtf8 rule.id
    → AllByRecursion IsToldEntry (record { path = path; rule = Some rule.id } ∷ [])
rule_applies path rule h u = (record { path = h; rule = u }, tt)

boolean_decides : (b : Bool) (path : List DocKey) (rule : Rule) → IsToldPath path → IsUtf8 rule.id
    → IsGoodAnswer (decided path rule (truth_of (evaluated_of (Ok (One (values.Boolean b))))))
boolean_decides true path rule h u = record { why = rule_applies path rule h u; obligations = tt; advice = tt }
boolean_decides false path rule h u = none_good _ refl refl refl

value_decides : (v : Value) (path : List DocKey) (rule : Rule) → IsToldPath path → IsUtf8 rule.id
    → IsGoodAnswer (decided path rule (truth_of (evaluated_of (Ok (One v)))))
value_decides (values.Boolean b) path rule h u = boolean_decides b path rule h u
value_decides (values.Text text) path rule h u = none_good _ refl refl refl
value_decides (values.Integer n) path rule h u = none_good _ refl refl refl
value_decides (values.Date day) path rule h u = none_good _ refl refl refl
value_decides (values.AnyUri uri) path rule h u = none_good _ refl refl refl
value_decides (values.YearMonth months) path rule h u = none_good _ refl refl refl
value_decides (values.Time time) path rule h u = none_good _ refl refl refl
value_decides (values.DateTime moment) path rule h u = none_good _ refl refl refl

-- ---- what is assigned

assigned_value : (a : AssignmentExpression) (v : Value) → IsGoodAssignment a → IsGood v
    → IsToldAssignment (assignment_of a v)
assigned_value a v h g = record { attribute = h.attribute; category = h.category; issuer = h.issuer; value = g }

each_assigned : (a : AssignmentExpression) (vs : List Value) → IsGoodAssignment a → AreGood vs
    → AllByRecursion IsToldAssignment (map (assignment_of a) vs)
each_assigned a [] h g = tt
each_assigned a (v ∷ vs) h g = (assigned_value a v h g.0, each_assigned a vs h g.1)

-- ---- results

-- an argument, as what is known
known_good : (a : Arg) → IsGoodArg a → IsGoodEvaluated (evaluated_of (Ok a))
known_good (One v) g = record {
  assigns = λ a h. (assigned_value a v h g, tt);
  argues = λ vs h. (g, h);
  decides = value_decides v;
}
known_good (Many bag) g = record {
  assigns = λ a h. each_assigned a bag.values h g;
  argues = λ vs h. (g, h);
  decides = λ path rule h u. none_good _ refl refl refl;
}
known_good (Fun function) g = record {
  assigns = λ a h. tt;
  argues = λ vs h. (tt, h);
  decides = λ path rule h u. none_good _ refl refl refl;
}

outcome_good : (r : Result Arg Fault) → IsGoodResult r → IsGoodEvaluated (evaluated_of r)
outcome_good (Ok outcome) h = known_good outcome h
outcome_good (Err fault) h =
    record { assigns = λ a g. tt; argues = λ vs g. g; decides = λ path rule g u. none_good _ refl refl refl }

arguments_good : (vs : List Evaluated) → AllByRecursion IsGoodEvaluated vs
    → AllByRecursion IsGoodArg (arguments_of vs)
arguments_good [] h = tt
arguments_good (v ∷ vs) h = h.0.argues vs (arguments_good vs h.1)

found_good : (p : Evaluated → Bool) (vs : List Evaluated) (otherwise : Evaluated)
    → AllByRecursion IsGoodEvaluated vs → IsGoodEvaluated otherwise
    → IsGoodEvaluated (unwrap_or (find p vs) otherwise)
found_good p [] otherwise h g = g
found_good p (v ∷ vs) otherwise h g = by (p v) (found_good p vs otherwise h.1 g)
  where
    by : (b : Bool) → IsGoodEvaluated (unwrap_or (find p vs) otherwise)
        → IsGoodEvaluated (unwrap_or (cond b (Some v) (find p vs)) otherwise)
    by true more = h.0
    by false more = more

result_good : (function : Function) (vs : List Evaluated) → AllByRecursion IsGoodEvaluated vs
    → IsGoodEvaluated (result_of function vs)
result_good function vs h =
    found_good (is_result function) vs (evaluated_of (applied function (arguments_of vs))) h
    (outcome_good (applied function (arguments_of vs)) (applied_good function (arguments_of vs)
    (arguments_good vs h)))

-- what is Indeterminate
failed_good : (fault : Fault) → IsGoodEvaluated (evaluated_of (Err fault))
failed_good fault = outcome_good (Err fault) tt

-- the definition of a variable
defined_good : (ds : List VariableDefinition) (id : List ℕ) → AllByRecursion IsGoodDefinition ds
    → (d : VariableDefinition) → definition_of ds id ≡ Some d → IsGoodDefinition d
defined_good [] id h d is = absurd cc
defined_good (e ∷ ds) id h d is = by (bytes_eq e.id id) (defined_good ds id h.1 d) is
  where
    by : (b : Bool) → (definition_of ds id ≡ Some d → IsGoodDefinition d)
        → cond b (Some e) (definition_of ds id) ≡ Some d → IsGoodDefinition d
    by true more same = let there : e ≡ d = cc in subst (λ (x : VariableDefinition). IsGoodDefinition x) there h.0
    by false more same = more same

-- the value of a literal
literal_utf8 : (v : Value) → IsUtf8Data (literal_written v) → IsUtf8Data (value_written v)
unfolding literal_written
literal_utf8 v h = h.2.1

module _ (looks : Looks) (request : Request) (held : AreGoodLooks looks) (own : IsGoodRequest request) where
  -- ---- designators

  entity_good : (d : Designator) (o : Option (List ℕ)) → AreGood (entity_values looks d o)
  entity_good d None = tt
  entity_good d (Some entity) = held.found _

  source_good : (d : Designator) → AreGood (source_values looks request d)
  source_good d =
      either AreGood (asks_for uris.current_date types.Date d) (known_values values.Date looks.date) _ held.date
      (either AreGood (asks_for uris.current_time types.Time d) (known_values values.Time looks.time) _ held.time
      (either AreGood (asks_for uris.current_date_time types.DateTime d)
      (known_values values.DateTime looks.date_time) (entity_values looks d (entity_of request d.category))
      held.date_time (entity_good d (entity_of request d.category))))

  designated_good : (d : Designator) → AreGood (designated_values looks request d)
  designated_good d = either AreGood (is_empty (own_values d request)) (source_values looks request d)
      (own_values d request) (source_good d) (own d)

  bag_good : (d : Designator) (vs : List Value) → AreGood vs → IsGoodEvaluated (bag_of d vs)
  bag_good d [] h = either IsGoodEvaluated d.must_be_present _ _ absent
      (known_good (Many (record { datatype = d.datatype; values = [] })) tt)
    where
      absent : IsGoodEvaluated (bag_of (record d { must_be_present = true }) [])
      absent =
          record { assigns = λ a g. tt; argues = λ vs g. g; decides = λ path rule g u. none_good _ refl refl refl }
  bag_good d (v ∷ vs) h = known_good (Many (record { datatype = d.datatype; values = v ∷ vs })) h

  -- ---- expressions

  module _ (refer : List ℕ → Part Evaluated) (refers : (id : List ℕ) → IsGoodEvaluated (refer id).value) where
    abbrev seen : Expression → Part Evaluated
    seen = meaning_with looks request refer

    abbrev ComesGood : Expression → Type 0
    ComesGood e = IsGoodExpression e → IsGoodEvaluated (seen e).value

    abbrev Good : Type 0
    Good = (e : Expression) × ComesGood e

    abbrev all : List Good → List Expression
    all es = map (λ (e : Good). e.0) es

    shown : (y : Expression-F Expression)
        → IsGoodEvaluated
        (meaning_step looks request refer (map-Expression Expression (Part Evaluated) seen y)).value
        → IsGoodEvaluated (seen (roll-Expression y)).value
    shown y h = subst (λ (p : Part Evaluated). IsGoodEvaluated p.value)
        (sym (fold-roll-Expression (Part Evaluated) (meaning_step looks request refer) y)) h

    arguments_come : (es : List Good) → AreSmall (flat_map expression_values (all es))
        → AllByRecursion IsUtf8Data (map expression_written (all es))
        → AllByRecursion IsGoodEvaluated (values_of_parts (map seen (all es)))
    arguments_come [] small utf8 = tt
    arguments_come (e ∷ es) small utf8 =
        let both = small_parts (expression_values e.0) (flat_map expression_values (all es)) small in
        (e.1 (record { small = both.0; utf8 = utf8.0 }), arguments_come es both.1 utf8.1)

    -- what is written of one level
    level : (y : Expression-F Expression) → IsGoodExpression (roll-Expression y)
        → IsUtf8Data (expression_step (map-Expression Expression Data expression_written y))
    level y h = subst IsUtf8Data (fold-roll-Expression Data expression_step y) h.utf8

    layer : (y : Expression-F Good)
        → ComesGood (roll-Expression (map-Expression Good Expression (λ (e : Good). e.0) y))
    layer (Expression-F.Value v) h =
        let here : AreSmall (v ∷ []) = subst AreSmall
        (fold-roll-Expression (List Value) values_here (Expression-F.Value v)) h.small in
        shown (Expression-F.Value v)
        (known_good (One v) (record { small = here.0; utf8 = literal_utf8 v (level (Expression-F.Value v) h).1 }))
    layer (Expression-F.Designator d) h =
        shown (Expression-F.Designator d) (bag_good d (designated_values looks request d) (designated_good d))
    layer (Expression-F.Variable id) h = shown (Expression-F.Variable id) (refers id)
    layer (Expression-F.Apply f es) h =
        let xs = all es in
        let inside : AreSmall (flat_map expression_values xs) = subst AreSmall
        (fold-roll-Expression (List Value) values_here (Expression-F.Apply f xs)
        ∙ flat_map-map (λ l. l) expression_values xs) h.small in
        let arguments = optional_parts (codes "Arguments") (filled_list (map expression_written xs)) _
        (level (Expression-F.Apply f xs) h).1 in
        shown (Expression-F.Apply f xs)
        (result_good f (values_of_parts (map seen xs)) (arguments_come es inside
        (filled_all (map expression_written xs) arguments.0)))
    layer (Expression-F.Function f) h = shown (Expression-F.Function f) (known_good (Fun f) tt)

    pub comes_good : (e : Expression) → ComesGood e
    comes_good = ind-Expression ComesGood (λ x y is. subst (λ z. ComesGood (roll-Expression z)) is (layer y))

  module _ (ds : List VariableDefinition) (good : AllByRecursion IsGoodDefinition ds) where
    variable_good : (n : ℕ) (id : List ℕ) → IsGoodEvaluated (variable_part looks request ds n id).value
    variable_good zero id = failed_good DivideByZero
    variable_good (suc n) id = by (variable_good n) (definition_of ds id) (defined_good ds id good)
      where
        by : ((x : List ℕ) → IsGoodEvaluated (variable_part looks request ds n x).value)
            → (o : Option VariableDefinition) → ((d : VariableDefinition) → o ≡ Some d → IsGoodDefinition d)
            → IsGoodEvaluated (defined_part (meaning_with looks request (variable_part looks request ds n)) o).value
        by refers None h = failed_good DivideByZero
        by refers (Some d) h = comes_good (variable_part looks request ds n) refers d.expression (h d refl)

    -- an expression among definitions
    pub meaning_good : (n : ℕ) (e : Expression) → IsGoodExpression e
        → IsGoodEvaluated (meaning looks request ds n e).value
    meaning_good n e h = comes_good (variable_part looks request ds n) (variable_good n) e h
