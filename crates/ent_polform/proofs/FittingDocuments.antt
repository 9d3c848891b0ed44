-- What is written of a document that the checker passes is plain, and nests at most 100 deep.
use Rattle.std.proofs.Common.{◌≡◌, ℕ, zero, suc, ◌+◌, ◌*◌, ◌≤◌, List, [], ◌∷◌, ◌++◌, length, map, Bool, true, false, not, ◌||◌, Option, Some, None, option_map, codes, nat_lt, refl, sym, ap, subst, ◌∙◌, arith}
use Rattle.std.specs.List.{AllByRecursion, flat_map, list_all, list_any}
use Rattle.std.specs.Option.{option_to_list}
use Rattle.std.proofs.lemmas.Bool.{ltb-false}
use Rattle.serde_json.specs.Data as json
use Rattle.serde_json.specs.Data.{Data, put}
use Rattle.ent_values.specs.ReadBack.{IsReal}
use Rattle.ent_values.specs.declared.value.Value.{Value}
use Rattle.ent_combine.specs.Identifiers.{policy_id_of, rule_id_of}
use Rattle.ent_policy.specs.Check.{IsChecked, tree_fault, whole_fault}
use Rattle.ent_policy.specs.Children.{as_child}
use Rattle.ent_policy.specs.Depths.{child_depth_step, deep_in_child, deep_in_set, defined_depth, depth, depth_with, exceeds_depth, greatest, has_deep, has_deep_expression, is_deep, is_deep_condition, is_deep_given, is_deep_given_expression, is_deep_rule, set_depth_step}
use Rattle.ent_policy.specs.First.{if_so}
use Rattle.ent_policy.specs.Limits.{has_double, limit_fault}
use Rattle.ent_policy.specs.Sizes.{exceeds_size}
use Rattle.ent_policy.specs.Values.{assignment_values, child_values, definition_values, expression_values, given_values, policy_values, rule_values, target_values, values_given, values_in_level, values_in_set}
use Rattle.ent_policy.specs.Variables.{assignment_variables, condition_variables, defined, definition_of, followed, given_expression_variables, given_variables, has_bad_variable, has_variable_fault, ids_of, is_resolved, rule_variables, used, uses_only, variables, variables_of_child, variables_of_set}
use Rattle.ent_policy.specs.Versions.{version_text}
use Rattle.ent_policy.specs.declared.document.Child.{Child}
use Rattle.ent_policy.specs.declared.document.Child.TheFolds.{fold-roll-Child, fold_out-PolicySet, ind-PolicySet, map-Child, map-PolicySet}
use Rattle.ent_policy.specs.declared.document.Child.TheOpen.{Child-F, PolicySet-F}
use Rattle.ent_policy.specs.declared.document.Child.TheVariants as children
use Rattle.ent_policy.specs.declared.document.Child.TheViews.{roll-Child, roll-PolicySet}
use Rattle.ent_policy.specs.declared.document.Policy.{Policy}
use Rattle.ent_policy.specs.declared.document.PolicySet.{PolicySet}
use Rattle.ent_policy.specs.declared.document.Rule.{Rule}
use Rattle.ent_policy.specs.declared.document.Tree.{Tree}
use Rattle.ent_policy.specs.declared.document.Tree.TheVariants as trees
use Rattle.ent_policy.specs.declared.expression.Expression.{Expression}
use Rattle.ent_policy.specs.declared.expression.VariableDefinition.{VariableDefinition}
use Rattle.ent_policy.specs.declared.fault.DocFault.{DocFault}
use Rattle.ent_policy.specs.declared.fault.DocFault.TheVariants.{Depth, Size, Variable}
use Rattle.ent_policy.specs.declared.given.AssignmentExpression.{AssignmentExpression}
use Rattle.ent_policy.specs.declared.given.GivenExpression.{GivenExpression}
use Rattle.ent_policy.specs.declared.given.GivenExpressions.{GivenExpressions}
use Rattle.ent_policy.specs.declared.key.Reference.{Reference}
use Rattle.ent_policy.proofs.Extents.{bad_set, depth_of_set}
use Rattle.ent_policy.proofs.Wholes.{neither, passed}
use Rattle.ent_policy.proofs.Within.{passed_within}
use Rattle.ent_json.specs.Members.{filled_list, put_optional}
use Rattle.ent_polform.specs.Depths.{DocumentsAreShallow}
use Rattle.ent_polform.specs.Written.{advice_written, assignment_written, child_step, child_written, definition_written, effect_word, expression_written, given_written, obligations_written, policy_written, rule_written, set_with, target_written, written}
use Rattle.ent_polform.specs.proofs_only.Written.{set_written}
use Rattle.ent_polform.proofs.BackDocuments.{set_values, values_of_set}
use Rattle.ent_polform.proofs.Fitting.{Fits, FitsOption, IsGood, both_false, both_good, both_real, each_fits, filled_fits, fits_more, maybe_text_fits, object_fits, one_fits, option_more, text_fits}
use Rattle.ent_polform.proofs.FittingParts.{expression_fits, has_level, reference_fits, target_fits}
use Rattle.ent_polform.proofs.WrittenLemmas.{set_is_written}

holds : (b : Bool) → not b ≡ false → b ≡ true
holds true h = refl
holds false h = absurd cc

-- ---- expressions

-- a variable that leads to an end stands for a level at least
reaches : (ds : List VariableDefinition) (n : ℕ) (id : List ℕ) → followed uses_only false ds n id ≡ true → 1 ≤ followed depth_with 0 ds n id
reaches ds zero id h = absurd cc
reaches ds (suc n) id h = at (reaches ds n) (definition_of ds id) h
  where
    at : ((v : List ℕ) → followed uses_only false ds n v ≡ true → 1 ≤ followed depth_with 0 ds n v) → (o : Option VariableDefinition)
        → defined (uses_only (followed uses_only false ds n)) false o ≡ true → 1 ≤ defined (depth_with (followed depth_with 0 ds n)) 0 o
    at less None h = absurd cc
    at less (Some d) h = has_level (followed depth_with 0 ds n) (followed uses_only false ds n) less d.expression h

-- an expression that is not too deep, whose variables lead to an end
used_fits : (ds : List VariableDefinition) (e : Expression) → IsGood (is_resolved ds) (expression_values e) (variables e) (is_deep (defined_depth ds) e) → Fits 48 (expression_written e)
used_fits ds e h =
    let most : depth_with (defined_depth ds) e ≤ 16 = ltb-false 16 (depth_with (defined_depth ds) e) h.low in
    fits_more _ 48 (expression_written e) (omega arith)
    (expression_fits (defined_depth ds) (is_resolved ds) 0 (λ id known. let one = reaches ds (length ds) id known in omega arith) e h.real h.known)

all_pass : (ids : List (List ℕ)) → list_all (λ id. true) ids ≡ true
all_pass [] = refl
all_pass (id ∷ ids) = all_pass ids

-- and any that is not too deep
any_fits : (refer : List ℕ → ℕ) (e : Expression) → AllByRecursion IsReal (expression_values e) → is_deep refer e ≡ false → Fits 51 (expression_written e)
any_fits refer e real low =
    let most : depth_with refer e ≤ 16 = ltb-false 16 (depth_with refer e) low in
    fits_more _ 51 (expression_written e) (omega arith) (expression_fits refer (λ id. true) 3 (λ id h. omega arith) e real (all_pass (variables e)))

-- ---- obligations and advice

module _ (ds : List VariableDefinition) where
  abbrev refer : List ℕ → ℕ
  refer = defined_depth ds

  abbrev passes : List ℕ → Bool
  passes = is_resolved ds

  assignment_fits : (a : AssignmentExpression) → IsGood passes (assignment_values a) (assignment_variables a) (is_deep refer a.expression) → Fits 49 (assignment_written a)
  unfolding assignment_written
  assignment_fits a h =
      object_fits 47 ((codes "AttributeId", Some (json.string a.attribute)) ∷ (codes "Category", option_map json.string a.category) ∷ (codes "Expression", Some (expression_written a.expression))
      ∷ (codes "Issuer", option_map json.string a.issuer) ∷ [])
      refl (text_fits 47 _, (maybe_text_fits 47 a.category, (used_fits ds a.expression h, (maybe_text_fits 47 a.issuer, tt))))

  abbrev IsGoodGiven : GivenExpression → Type 0
  IsGoodGiven g = IsGood passes (values_given g) (given_expression_variables g) (is_deep_given_expression refer g)

  assignments_fit : (g : GivenExpression) → IsGoodGiven g → FitsOption 50 (filled_list (map assignment_written g.assignments))
  assignments_fit g h =
      filled_fits 49 _ (each_fits passes 49 assignment_written assignment_values assignment_variables (λ (a : AssignmentExpression). is_deep refer a.expression) assignment_fits g.assignments h)

  obligation_fits : (g : GivenExpression) → IsGoodGiven g → Fits 51 (given_written (codes "ObligationId") (codes "FulfillOn") g)
  unfolding given_written
  obligation_fits g h = by (filled_list (map assignment_written g.assignments)) (assignments_fit g h)
    where
      by : (o : Option Data) → FitsOption 50 o
          → Fits 51 (json.object (put (codes "ObligationId") (json.string g.id) (put (codes "FulfillOn") (json.string (effect_word g.effect)) (put_optional (codes "AttributeAssignmentExpression") o json.no_members))))
      by None h = object_fits 49 ((codes "FulfillOn", Some (json.string (effect_word g.effect))) ∷ (codes "ObligationId", Some (json.string g.id)) ∷ []) refl (text_fits 49 _, (text_fits 49 _, tt))
      by (Some d) h =
          object_fits 49 ((codes "AttributeAssignmentExpression", Some d) ∷ (codes "FulfillOn", Some (json.string (effect_word g.effect))) ∷ (codes "ObligationId", Some (json.string g.id)) ∷ [])
          refl (h, (text_fits 49 _, (text_fits 49 _, tt)))

  one_advice_fits : (g : GivenExpression) → IsGoodGiven g → Fits 51 (given_written (codes "AdviceId") (codes "AppliesTo") g)
  unfolding given_written
  one_advice_fits g h = by (filled_list (map assignment_written g.assignments)) (assignments_fit g h)
    where
      by : (o : Option Data) → FitsOption 50 o
          → Fits 51 (json.object (put (codes "AdviceId") (json.string g.id) (put (codes "AppliesTo") (json.string (effect_word g.effect)) (put_optional (codes "AttributeAssignmentExpression") o json.no_members))))
      by None h = object_fits 49 ((codes "AdviceId", Some (json.string g.id)) ∷ (codes "AppliesTo", Some (json.string (effect_word g.effect))) ∷ []) refl (text_fits 49 _, (text_fits 49 _, tt))
      by (Some d) h =
          object_fits 49 ((codes "AdviceId", Some (json.string g.id)) ∷ (codes "AppliesTo", Some (json.string (effect_word g.effect))) ∷ (codes "AttributeAssignmentExpression", Some d) ∷ [])
          refl (text_fits 49 _, (text_fits 49 _, (h, tt)))

  -- one sort
  sort_fits : (write : GivenExpression → Data) → ((g : GivenExpression) → IsGoodGiven g → Fits 51 (write g)) → (gs : List GivenExpression)
      → IsGood passes (flat_map values_given gs) (flat_map given_expression_variables gs) (list_any (is_deep_given_expression refer) gs) → FitsOption 52 (filled_list (map write gs))
  sort_fits write fits gs h = filled_fits 51 (map write gs) (each_fits passes 51 write values_given given_expression_variables (is_deep_given_expression refer) fits gs h)

  -- both sorts
  given_fit : (g : GivenExpressions) → IsGood passes (given_values g) (given_variables g) (is_deep_given refer g) → FitsOption 52 (obligations_written g) × FitsOption 52 (advice_written g)
  given_fit g h =
      let both = both_good passes (flat_map values_given g.obligations) (flat_map values_given g.advice) (flat_map given_expression_variables g.obligations) (flat_map given_expression_variables g.advice)
      (list_any (is_deep_given_expression refer) g.obligations) (list_any (is_deep_given_expression refer) g.advice) h in
      (sort_fits _ obligation_fits g.obligations both.0, sort_fits _ one_advice_fits g.advice both.1)

  -- ---- rules

  condition_fits : (o : Option Expression) → IsGood passes (flat_map expression_values (option_to_list o)) (condition_variables o) (is_deep_condition refer o) → FitsOption 52 (option_map expression_written o)
  condition_fits None h = tt
  condition_fits (Some e) h =
      let values = both_real (expression_values e) [] h.real in
      fits_more 48 52 (expression_written e) (omega arith) (used_fits ds e (record { real = values.0; known = h.known; low = h.low }))

  rule_fits : (r : Rule) → IsGood passes (rule_values r) (rule_variables r) (is_deep_rule refer r) → Fits 53 (rule_written r)
  unfolding rule_written
  rule_fits r h =
      let values = both_real (target_values r.target) (flat_map expression_values (option_to_list r.condition) ++ given_values r.given) h.real in
      let both = both_good passes (flat_map expression_values (option_to_list r.condition)) (given_values r.given) (condition_variables r.condition) (given_variables r.given)
      (is_deep_condition refer r.condition) (is_deep_given refer r.given) (record { real = values.1; known = h.known; low = h.low }) in
      let given = given_fit r.given both.1 in
      let target = option_more 9 52 (target_written r.target) (omega arith) (target_fits r.target values.0) in
      object_fits 51 ((codes "AdviceExpressions", advice_written r.given) ∷ (codes "Condition", option_map expression_written r.condition) ∷ (codes "Effect", Some (json.string (effect_word r.effect)))
      ∷ (codes "ObligationExpressions", obligations_written r.given) ∷ (codes "RuleId", Some (json.string r.id)) ∷ (codes "Target", target_written r.target) ∷ [])
      refl (given.1, (condition_fits r.condition both.0, (text_fits 51 _, (given.0, (text_fits 51 _, (target, tt))))))

definition_fits : (refer : List ℕ → ℕ) (d : VariableDefinition) → IsGood (λ id. true) (definition_values d) (variables d.expression) (is_deep refer d.expression) → Fits 52 (definition_written d)
unfolding definition_written
definition_fits refer d h =
    object_fits 50 ((codes "Expression", Some (expression_written d.expression)) ∷ (codes "VariableId", Some (json.string d.id)) ∷ []) refl (any_fits refer d.expression h.real h.low, (text_fits 50 _, tt))

-- ---- policies

used_resolved : (p : Policy) → has_bad_variable p ≡ false → list_all (is_resolved p.variables) (used p) ≡ true
unfolding has_bad_variable
used_resolved p good =
    let bad = has_double (ids_of p.variables) || not (list_all (is_resolved p.variables) (ids_of p.variables)) in
    holds (list_all (is_resolved p.variables) (used p)) (both_false bad (not (list_all (is_resolved p.variables) (used p))) good).1

policy_fits : (p : Policy) → AllByRecursion IsReal (policy_values p) → has_bad_variable p ≡ false → has_deep_expression p ≡ false → Fits 55 (policy_written p)
unfolding policy_written
policy_fits p real good low =
    let ds = p.variables in
    let deep = is_deep (defined_depth ds) in
    let one = both_real (target_values p.target) (flat_map definition_values ds ++ (flat_map rule_values p.rules ++ given_values p.given)) real in
    let two = both_real (flat_map definition_values ds) (flat_map rule_values p.rules ++ given_values p.given) one.1 in
    let test = both_false (list_any (λ (d : VariableDefinition). deep d.expression) ds || list_any (is_deep_rule (defined_depth ds)) p.rules) (is_deep_given (defined_depth ds) p.given) low in
    let more = both_false (list_any (λ (d : VariableDefinition). deep d.expression) ds) (list_any (is_deep_rule (defined_depth ds)) p.rules) test.0 in
    let inside = both_good (is_resolved ds) (flat_map rule_values p.rules) (given_values p.given) (flat_map rule_variables p.rules) (given_variables p.given)
    (list_any (is_deep_rule (defined_depth ds)) p.rules) (is_deep_given (defined_depth ds) p.given) (record { real = two.1; known = used_resolved p good; low = rw (more.1, test.1) refl }) in
    let given = given_fit ds p.given inside.1 in
    let rules = filled_fits 53 _ (each_fits (is_resolved ds) 53 rule_written rule_values rule_variables (is_deep_rule (defined_depth ds)) (rule_fits ds) p.rules inside.0) in
    let definitions = filled_fits 52 _ (each_fits (λ id. true) 52 definition_written definition_values (λ (d : VariableDefinition). variables d.expression) (λ (d : VariableDefinition). deep d.expression)
    (definition_fits (defined_depth ds)) ds (record { real = two.0; known = all_pass (flat_map (λ (d : VariableDefinition). variables d.expression) ds); low = more.0 })) in
    let advice = option_more 52 54 (advice_written p.given) (omega arith) given.1 in
    let obligations = option_more 52 54 (obligations_written p.given) (omega arith) given.0 in
    let target = option_more 9 54 (target_written p.target) (omega arith) (target_fits p.target one.0) in
    let variables = option_more 53 54 (filled_list (map definition_written ds)) (omega arith) definitions in
    object_fits 53 ((codes "AdviceExpressions", advice_written p.given) ∷ (codes "ObligationExpressions", obligations_written p.given) ∷ (codes "PolicyId", Some (json.string p.id))
    ∷ (codes "Rule", filled_list (map rule_written p.rules)) ∷ (codes "RuleCombiningAlgId", Some (json.string (rule_id_of p.algorithm))) ∷ (codes "Target", target_written p.target)
    ∷ (codes "VariableDefinition", filled_list (map definition_written ds)) ∷ (codes "Version", Some (json.string (version_text p.version))) ∷ [])
    refl (advice, (obligations, (text_fits 53 _, (rules, (text_fits 53 _, (target, (variables, (text_fits 53 _, tt))))))))

-- ---- sets and children

abbrev set_bad : PolicySet → Bool
set_bad s = list_any has_variable_fault s.children || not (list_all (is_resolved []) (given_variables s.given))

abbrev set_deep : PolicySet → Bool
set_deep s = list_any has_deep s.children || is_deep_given (defined_depth []) s.given

abbrev child_levels : Child → ℕ
child_levels c = 3 * depth c + 53

abbrev set_levels : PolicySet → ℕ
set_levels s = suc (suc (3 * greatest (map depth s.children) + 53))

abbrev ChildFits : Child → Type 0
ChildFits c = AllByRecursion IsReal (child_values c) → has_variable_fault c ≡ false → has_deep c ≡ false → Fits (child_levels c) (child_written c)

abbrev SetFits : PolicySet → Type 0
SetFits s = AllByRecursion IsReal (set_values s) → set_bad s ≡ false → set_deep s ≡ false → Fits (set_levels s) (set_written s)

children_fit : (n : ℕ) (cs : List Child) → AllByRecursion ChildFits cs → AllByRecursion IsReal (flat_map child_values cs) → list_any has_variable_fault cs ≡ false → list_any has_deep cs ≡ false
    → 3 * greatest (map depth cs) + 53 ≤ n → AllByRecursion (Fits n) (map child_written cs)
children_fit n [] each real good low most = tt
children_fit n (c ∷ cs) each real good low most =
    let values = both_real (child_values c) (flat_map child_values cs) real in
    let goods = both_false (has_variable_fault c) (list_any has_variable_fault cs) good in
    let tests = both_false (has_deep c) (list_any has_deep cs) low in
    (fits_more (child_levels c) n (child_written c) (omega arith) (each.0 values.0 goods.0 tests.0), children_fit n cs each.1 values.1 goods.1 tests.1 (omega arith))

set_fits : (s : PolicySet) → AllByRecursion ChildFits s.children → SetFits s
unfolding set_written
set_fits s each real good low =
    let n = 3 * greatest (map depth s.children) + 53 in
    let one = both_real (target_values s.target) (flat_map child_values s.children ++ given_values s.given) real in
    let two = both_real (flat_map child_values s.children) (given_values s.given) one.1 in
    let goods = both_false (list_any has_variable_fault s.children) (not (list_all (is_resolved []) (given_variables s.given))) good in
    let tests = both_false (list_any has_deep s.children) (is_deep_given (defined_depth []) s.given) low in
    let given = given_fit [] s.given (record { real = two.1; known = holds (list_all (is_resolved []) (given_variables s.given)) goods.1; low = tests.1 }) in
    let inside = filled_fits n _ (children_fit n s.children each two.0 goods.0 tests.0 (omega arith)) in
    let advice = option_more 52 (suc n) (advice_written s.given) (omega arith) given.1 in
    let obligations = option_more 52 (suc n) (obligations_written s.given) (omega arith) given.0 in
    let target = option_more 9 (suc n) (target_written s.target) (omega arith) (target_fits s.target one.0) in
    object_fits n ((codes "AdviceExpressions", advice_written s.given) ∷ (codes "Children", filled_list (map child_written s.children)) ∷ (codes "ObligationExpressions", obligations_written s.given)
    ∷ (codes "PolicyCombiningAlgId", Some (json.string (policy_id_of s.algorithm))) ∷ (codes "PolicySetId", Some (json.string s.id)) ∷ (codes "Target", target_written s.target)
    ∷ (codes "Version", Some (json.string (version_text s.version))) ∷ [])
    refl (advice, (inside, (obligations, (text_fits n _, (text_fits n _, (target, (text_fits n _, tt)))))))

any_map : (cs : List Child) → list_any (λ b. b) (map has_deep cs) ≡ list_any has_deep cs
any_map [] = refl
any_map (c ∷ cs) = ap (λ b. has_deep c || b) (any_map cs)

deep_of_set : (s : PolicySet) → has_deep (children.Set s) ≡ set_deep s
unfolding Rattle.ent_policy.specs.declared.document.Child.TheViews.roll-Child denote.Hole.Carrier.roll
deep_of_set s =
    fold-roll-Child Bool Bool deep_in_child deep_in_set (Child-F.Set s) ∙ fold_out-PolicySet Bool Bool deep_in_child deep_in_set s
    ∙ ap (λ b. b || is_deep_given (defined_depth []) s.given) (any_map s.children)

set_child : (s : PolicySet) → SetFits s → ChildFits (children.Set s)
set_child s fits real good low =
    let deep = depth_of_set s in
    let inside = fits (subst (AllByRecursion IsReal) (values_of_set s) real) (sym (bad_set s) ∙ good) (sym (deep_of_set s) ∙ low) in
    subst (Fits (child_levels (children.Set s))) (sym (set_is_written s))
    (fits_more (suc (set_levels s)) (child_levels (children.Set s)) _ (omega (arith, deep)) (one_fits (suc (3 * greatest (map depth s.children) + 53)) (codes "PolicySet") (set_written s) inside))

policy_child : (p : Policy) → ChildFits (children.Policy p)
unfolding Rattle.ent_policy.specs.declared.document.Child.TheViews.roll-Child denote.Hole.Carrier.roll
policy_child p real good low =
    let deep = fold-roll-Child ℕ ℕ child_depth_step set_depth_step (Child-F.Policy p) in
    let values = subst (AllByRecursion IsReal) (fold-roll-Child (List Value) (List Value) values_in_level values_in_set (Child-F.Policy p)) real in
    let known = sym (fold-roll-Child Bool Bool variables_of_child variables_of_set (Child-F.Policy p)) ∙ good in
    let inside = policy_fits p values known (sym (fold-roll-Child Bool Bool deep_in_child deep_in_set (Child-F.Policy p)) ∙ low) in
    subst (Fits (child_levels (children.Policy p))) (sym (fold-roll-Child Data Data child_step set_with (Child-F.Policy p)))
    (fits_more 56 (child_levels (children.Policy p)) _ (omega (arith, deep)) (one_fits 54 (codes "Policy") (policy_written p) inside))

reference_child : (r : Reference) → ChildFits (children.Reference r)
unfolding Rattle.ent_policy.specs.declared.document.Child.TheViews.roll-Child denote.Hole.Carrier.roll
reference_child r real good low =
    subst (Fits (child_levels (children.Reference r))) (sym (fold-roll-Child Data Data child_step set_with (Child-F.Reference r)))
    (fits_more 3 (child_levels (children.Reference r)) _ (omega arith) (reference_fits r))

abbrev Fit_child : Type 0
Fit_child = (c : Child) × ChildFits c

abbrev Fit_set : Type 0
Fit_set = (s : PolicySet) × SetFits s

layer : (y : Child-F Fit_child Fit_set) → ChildFits (roll-Child (map-Child Fit_child Fit_set Child PolicySet (λ c. c.0) (λ s. s.0) y))
unfolding Rattle.ent_policy.specs.declared.document.Child.TheViews.roll-Child denote.Hole.Carrier.roll
layer (Child-F.Policy p) = policy_child p
layer (Child-F.Set s) = set_child s.0 s.1
layer (Child-F.Reference r) = reference_child r

all_children : (cs : List Fit_child) → AllByRecursion ChildFits (map (λ c. c.0) cs)
all_children [] = tt
all_children (c ∷ cs) = (c.1, all_children cs)

set_layer : (y : PolicySet-F Fit_child Fit_set) → SetFits (roll-PolicySet (map-PolicySet Fit_child Fit_set Child PolicySet (λ c. c.0) (λ s. s.0) y))
unfolding denote.Hole.Carrier.roll
set_layer y = set_fits _ (all_children y.children)

sets_fit : (s : PolicySet) → SetFits s
sets_fit = ind-PolicySet ChildFits SetFits (λ x y is. subst (λ z. ChildFits (roll-Child z)) is (layer y)) (λ x y is. subst (λ z. SetFits (roll-PolicySet z)) is (set_layer y))

tree_fits : (t : Tree) → ChildFits (as_child t)
tree_fits (trees.Policy p) = policy_child p
tree_fits (trees.Set s) = set_child s (sets_fit s)

-- ---- what the checker passes

no_fault : (b : Bool) (fault : DocFault) → if_so b fault ≡ None → b ≡ false
no_fault false fault h = refl
no_fault true fault h = absurd cc

checked_tests : (t : Tree) → IsChecked t → (has_variable_fault (as_child t) ≡ false) × (exceeds_depth (as_child t) ≡ false)
unfolding tree_fault
checked_tests t is =
    let c = as_child t in
    let whole = (neither (limit_fault c) (whole_fault c) (passed t is)).1 in
    let variable = neither (if_so (has_variable_fault c) Variable) _ whole in
    let deep = (neither (if_so (exceeds_size c) Size) _ variable.1).1 in
    (no_fault (has_variable_fault c) Variable variable.0, no_fault (exceeds_depth c) Depth (neither (if_so (exceeds_depth c) Depth) _ deep).0)

pub document_fits : (t : Tree) → IsChecked t → Fits 101 (written t)
document_fits t is =
    let c = as_child t in
    let tests = checked_tests t is in
    let deep = both_false (has_deep c) (nat_lt 16 (depth c)) tests.1 in
    let most : depth c ≤ 16 = ltb-false 16 (depth c) deep.1 in
    fits_more (child_levels c) 101 (written t) (omega arith) (tree_fits t (passed_within t is) tests.0 deep.0)

pub documents_are_shallow : DocumentsAreShallow
documents_are_shallow t is = let low = (document_fits t is).shallow in omega arith
