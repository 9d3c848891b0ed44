-- A part of which nothing is told where no definition stands around it has no fault of types, whatever definitions stand around it.
use Rattle.std.proofs.Common.{◌≡◌, ℕ, ◌+◌, ◌≤◌, min, List, [], ◌∷◌, map, Bool, true, false, not, nat_lt, ◌&&◌, ◌||◌, Option, Some, None, is_some, codes, refl, sym, ap, subst, ◌∙◌, arith}
use Rattle.std.specs.List.{flat_map, list_all, list_any, sum}
use Rattle.std.proofs.lemmas.Bool.{and_parts, false≢true, or_parts}
use Rattle.std.proofs.lemmas.Bool.Decides.{nat_tests}
use Rattle.std.proofs.lemmas.List.Folds.{list_all-append}
use Rattle.ent_policy.specs.Check.{fault_of}
use Rattle.ent_policy.specs.Depths.{child_depth_step, deep_in_child, deep_in_set, defined_depth, depth, exceeds_depth, has_deep, has_deep_expression, is_deep, is_deep_given, is_deep_rule, set_depth_step}
use Rattle.ent_policy.specs.First.{first_of, if_so}
use Rattle.ent_policy.specs.Limits.{given_fault, has_double_rule, length_fault, name_fault, rule_fault, target_fault}
use Rattle.ent_policy.specs.Reading.{each_read, given_read, policy_read, rule_algorithm_read, rule_read, target_read, version_read}
use Rattle.ent_policy.specs.Sizes.{child_nodes_step, child_references_step, defined_nodes, exceeds_size, given_nodes, nodes, nodes_with, policy_nodes, references, rule_nodes, set_nodes_step, set_references_step, target_nodes}
use Rattle.ent_policy.specs.Typing.{assignment_is_typed, child_step, condition_is_typed, definition_is_typed, given_expression_is_typed, given_is_typed, held, is_boolean, is_typed, policy_is_typed, rule_is_typed, set_step, target_is_typed}
use Rattle.ent_policy.specs.Variables.{assignment_variables, condition_variables, given_expression_variables, given_variables, has_bad_variable, is_resolved, rule_variables, variables}
use Rattle.ent_policy.specs.declared.document.Child.TheFolds.{fold-roll-Child}
use Rattle.ent_policy.specs.declared.document.Child.TheOpen.{Child-F}
use Rattle.ent_policy.specs.declared.document.Child.TheVariants as children
use Rattle.ent_policy.specs.declared.document.Policy.{Policy}
use Rattle.ent_policy.specs.declared.document.Rule.{Rule}
use Rattle.ent_policy.specs.declared.expression.Expression.{Expression}
use Rattle.ent_policy.specs.declared.expression.VariableDefinition.{VariableDefinition}
use Rattle.ent_policy.specs.declared.fault.DocFault.TheVariants.{Identifier, Variable, Size, Depth, «Type»}
use Rattle.ent_policy.specs.declared.given.AssignmentExpression.{AssignmentExpression}
use Rattle.ent_policy.specs.declared.given.GivenExpression.{GivenExpression}
use Rattle.ent_policy.specs.declared.given.GivenExpressions.{GivenExpressions}
use Rattle.ent_policy.specs.declared.raw.RawGivenExpressions.{RawGivenExpressions}
use Rattle.ent_policy.specs.declared.raw.RawRule.{RawRule}
use Rattle.ent_policy.specs.declared.raw.RawTarget.{RawTarget}
use Rattle.ent_policy.specs.declared.raw.RawVariableDefinition.{RawVariableDefinition}
use Rattle.lint_places.specs.Told.{everything, nothing_given, of_rules, plain_policy}
use Rattle.lint_places.proofs.Judged.{beside, good_where_late, local, rank_of_policy, stored, stored_policy, variables_of_policy, whole}
use Rattle.lint_places.proofs.Ranks.{rank}
use Rattle.lint_places.proofs.Resolved.{bad_by_use, sound_variables}
use Rattle.lint_places.proofs.Unnamed.{no_variable, type_alone}

-- ---- expressions that use no variable

-- parts that use no variable are typed alike
all_alone : {A : Type 0} (f g : A → Bool) (ids : A → List (List ℕ)) (xs : List A) → ((x : A) → no_variable (ids x) ≡ true → f x ≡ g x) → no_variable (flat_map ids xs) ≡ true
    → list_all f xs ≡ list_all g xs
all_alone f g ids [] each h = refl
all_alone f g ids (x ∷ xs) each h =
    let p = and_parts (no_variable (ids x)) (no_variable (flat_map ids xs)) (sym (list_all-append (is_resolved []) (ids x) (flat_map ids xs)) ∙ h) in
    rw (each x p.0, all_alone f g ids xs each p.1) refl

module _ (ds : List VariableDefinition) where
  condition_alone : (o : Option Expression) → no_variable (condition_variables o) ≡ true → condition_is_typed ds o ≡ condition_is_typed [] o
  unfolding condition_is_typed
  condition_alone None h = refl
  condition_alone (Some e) h = ap is_boolean (type_alone ds e h)

  assignment_alone : (a : AssignmentExpression) → no_variable (assignment_variables a) ≡ true → assignment_is_typed ds a ≡ assignment_is_typed [] a
  unfolding assignment_is_typed
  assignment_alone a h = ap (λ t. is_some (held t)) (type_alone ds a.expression h)

  given_expression_alone : (g : GivenExpression) → no_variable (given_expression_variables g) ≡ true → given_expression_is_typed ds g ≡ given_expression_is_typed [] g
  unfolding given_expression_is_typed
  given_expression_alone g h = all_alone (assignment_is_typed ds) (assignment_is_typed []) assignment_variables g.assignments assignment_alone h

  given_alone : (g : GivenExpressions) → no_variable (given_variables g) ≡ true → given_is_typed ds g ≡ given_is_typed [] g
  unfolding given_is_typed
  given_alone g h =
      let p = and_parts (no_variable (flat_map given_expression_variables g.obligations)) (no_variable (flat_map given_expression_variables g.advice))
      (sym (list_all-append (is_resolved []) (flat_map given_expression_variables g.obligations) (flat_map given_expression_variables g.advice)) ∙ h) in
      both_same (all_alone (given_expression_is_typed ds) (given_expression_is_typed []) given_expression_variables g.obligations given_expression_alone p.0)
      (all_alone (given_expression_is_typed ds) (given_expression_is_typed []) given_expression_variables g.advice given_expression_alone p.1)
    where
      both_same : {a b c d : Bool} → a ≡ c → b ≡ d → (a && b) ≡ (c && d)
      both_same e f = rw (e, f) refl

  rule_alone : (r : Rule) → no_variable (rule_variables r) ≡ true → rule_is_typed ds r ≡ rule_is_typed [] r
  unfolding rule_is_typed
  rule_alone r h =
      let p = and_parts (no_variable (condition_variables r.condition)) (no_variable (given_variables r.given))
      (sym (list_all-append (is_resolved []) (condition_variables r.condition) (given_variables r.given)) ∙ h) in
      last_same (target_is_typed r.target) (condition_alone r.condition p.0) (given_alone r.given p.1)
    where
      last_same : (t : Bool) {a b c d : Bool} → a ≡ c → b ≡ d → (t && a && b) ≡ (t && c && d)
      last_same t e f = rw (e, f) refl

-- ---- a policy as a whole

pub nodes_of_policy : (p : Policy) → nodes (children.Policy p) ≡ policy_nodes p
unfolding Rattle.ent_policy.specs.declared.document.Child.TheViews.roll-Child denote.Hole.Carrier.roll
nodes_of_policy p = fold-roll-Child ℕ ℕ child_nodes_step set_nodes_step (Child-F.Policy p)

pub references_of_policy : (p : Policy) → references (children.Policy p) ≡ 0
unfolding Rattle.ent_policy.specs.declared.document.Child.TheViews.roll-Child denote.Hole.Carrier.roll
references_of_policy p = fold-roll-Child ℕ ℕ child_references_step set_references_step (Child-F.Policy p)

pub deep_of_policy : (p : Policy) → has_deep (children.Policy p) ≡ has_deep_expression p
unfolding Rattle.ent_policy.specs.declared.document.Child.TheViews.roll-Child denote.Hole.Carrier.roll
deep_of_policy p = fold-roll-Child Bool Bool deep_in_child deep_in_set (Child-F.Policy p)

pub depth_of_policy : (p : Policy) → depth (children.Policy p) ≡ 1
unfolding Rattle.ent_policy.specs.declared.document.Child.TheViews.roll-Child denote.Hole.Carrier.roll
depth_of_policy p = fold-roll-Child ℕ ℕ child_depth_step set_depth_step (Child-F.Policy p)

typed_of_policy : (p : Policy) → is_typed (children.Policy p) ≡ policy_is_typed p
unfolding Rattle.ent_policy.specs.declared.document.Child.TheViews.roll-Child denote.Hole.Carrier.roll
typed_of_policy p = fold-roll-Child Bool Bool child_step set_step (Child-F.Policy p)

-- the place of what is told of a whole, by what is wrong with it
abbrev pub place_by : Bool → Bool → Bool → Bool → ℕ
place_by bad large deep typed = rank (first_of (if_so bad Variable ∷ if_so large Size ∷ if_so deep Depth ∷ if_so (not typed) «Type» ∷ []))

place_bad : (large deep typed : Bool) → place_by true large deep typed ≡ 5
place_bad true true true = refl
place_bad true true false = refl
place_bad true false true = refl
place_bad true false false = refl
place_bad false true true = refl
place_bad false true false = refl
place_bad false false true = refl
place_bad false false false = refl

place_large : (deep typed : Bool) → place_by false true deep typed ≡ 6
place_large true true = refl
place_large true false = refl
place_large false true = refl
place_large false false = refl

place_deep : (typed : Bool) → place_by false false true typed ≡ 7
place_deep true = refl
place_deep false = refl

place_untyped : place_by false false false false ≡ 8
place_untyped = refl

-- where it isn't told before types, nothing before types is wrong
pub record IsTypesAlone (bad large deep : Bool) : Type 0 where
  pub resolved : bad ≡ false
  pub within : large ≡ false
  pub flat : deep ≡ false

pub types_alone : (bad large deep typed : Bool) → 8 ≤ place_by bad large deep typed → IsTypesAlone bad large deep
types_alone true large deep typed le = absurd (omega (arith, le, place_bad large deep typed))
types_alone false true deep typed le = absurd (omega (arith, le, place_large deep typed))
types_alone false false true typed le = absurd (omega (arith, le, place_deep typed))
types_alone false false false typed le = record { resolved = refl; within = refl; flat = refl }

typed_where_none : (bad large deep typed : Bool) → 9 ≤ place_by bad large deep typed → typed ≡ true
typed_where_none bad large deep true le = refl
typed_where_none true large deep false le = absurd (omega (arith, le, place_bad large deep false))
typed_where_none false true deep false le = absurd (omega (arith, le, place_large deep false))
typed_where_none false false true false le = absurd (omega (arith, le, place_deep false))
typed_where_none false false false false le = absurd (omega (arith, le, place_untyped))

pub place_same : {a b c d p q r s : Bool} → a ≡ p → b ≡ q → c ≡ r → d ≡ s → place_by a b c d ≡ place_by p q r s
place_same e f g h = rw (e, f, g, h) refl

-- the first fault of a policy as a whole, by what is wrong with it
pub whole_is : (p : Policy) → whole p ≡ min (rank (length_fault p.variables)) (place_by (has_bad_variable p) (exceeds_size (children.Policy p)) (exceeds_depth (children.Policy p)) (policy_is_typed p))
unfolding whole
whole_is p =
    ap (λ b. min (rank (length_fault p.variables)) (place_by b (exceeds_size (children.Policy p)) (exceeds_depth (children.Policy p)) (is_typed (children.Policy p)))) (variables_of_policy p)
    ∙ ap (λ t. min (rank (length_fault p.variables)) (place_by (has_bad_variable p) (exceeds_size (children.Policy p)) (exceeds_depth (children.Policy p)) t)) (typed_of_policy p)

-- ---- tests of numbers and of several facts

pub at_most : (n m : ℕ) → nat_lt n m ≡ false → m ≤ n
at_most n m h = grind (arith, nat_tests)

pub not_above : (n m : ℕ) → m ≤ n → nat_lt n m ≡ false
not_above n m h = grind (arith, nat_tests)

pub neither : {a b : Bool} → a ≡ false → b ≡ false → (a || b) ≡ false
neither e f = rw (e, f) refl

zeros : (s : ℕ) → 0 + s + 0 + (0 + 0) ≡ s
zeros s = omega arith

some_of : (t s r g : ℕ) → s ≤ t + s + r + g
some_of t s r g = omega arith

-- each of four facts, where all stand
record AreFour (a b c d : Bool) : Type 0 where
  first : a ≡ true
  third : c ≡ true
  fourth : d ≡ true

four : (a b c d : Bool) → (a && b && c && d) ≡ true → AreFour a b c d
four true true true true h = record { first = refl; third = refl; fourth = refl }
four false b c d h = absurd (false≢true h)
four true false c d h = absurd (false≢true h)
four true true false d h = absurd (false≢true h)
four true true true false h = absurd (false≢true h)

second_alone : (a b c d : Bool) → a ≡ true → c ≡ true → d ≡ true → (a && b && c && d) ≡ (true && b && true && true)
second_alone a b c d e f g = rw (e, f, g) refl

-- the least of the places of other parts, where some of them are none
none_least : (a b c d e n p q t r h : ℕ) → 9 ≤ min (min a (min b (min c (min d (min e 9))))) (min n (min p (min q (min t (min r (min h 9))))))
    → min (min a (min b (min 9 (min 9 (min 9 9))))) (min n (min 9 (min 9 (min 9 (min 9 (min 9 9)))))) ≡ 9
none_least a b c d e n p q t r h le = omega (arith, le)

-- ---- a policy among definitions, without any, and the definitions alone

module _ (target : RawTarget) (rules : List RawRule) (given : RawGivenExpressions) (vs : List RawVariableDefinition) where
  abbrev among : Policy
  among = stored_policy target rules given vs

  abbrev bare : Policy
  bare = stored_policy target rules given []

  abbrev only : Policy
  only = stored_policy everything [] nothing_given vs

  -- the nodes of the definitions
  abbrev own_nodes : ℕ
  own_nodes = sum (map (λ (d : VariableDefinition). nodes_with (defined_nodes (stored vs)) d.expression) (stored vs))

  nodes_only : policy_nodes only ≡ own_nodes
  unfolding policy_read target_read given_read
  nodes_only = zeros own_nodes

  own_among : own_nodes ≤ policy_nodes among
  unfolding policy_read
  own_among = some_of (target_nodes among.target) own_nodes (sum (map (rule_nodes (defined_nodes (stored vs))) among.rules)) (given_nodes (defined_nodes (stored vs)) among.given)

  size_only : exceeds_size (children.Policy among) ≡ false → exceeds_size (children.Policy only) ≡ false
  size_only h =
      let p = or_parts (nat_lt 65536 (nodes (children.Policy among))) (nat_lt 32 (references (children.Policy among))) h in
      let le : policy_nodes among ≤ 65536 = subst (λ n. n ≤ 65536) (nodes_of_policy among) (at_most 65536 (nodes (children.Policy among)) p.0) in
      neither (ap (nat_lt 65536) (nodes_of_policy only ∙ nodes_only) ∙ not_above 65536 own_nodes (omega (arith, le, own_among))) (ap (nat_lt 32) (references_of_policy only))

  -- a definition is too deep
  abbrev own_deep : Bool
  own_deep = list_any (λ (d : VariableDefinition). is_deep (defined_depth (stored vs)) d.expression) (stored vs)

  deep_only : has_deep_expression only ≡ ((own_deep || false) || (false || false))
  unfolding policy_read given_read
  deep_only = refl

  own_flat : has_deep_expression among ≡ false → own_deep ≡ false
  unfolding policy_read
  own_flat h =
      let p = or_parts (own_deep || list_any (is_deep_rule (defined_depth (stored vs))) among.rules) (is_deep_given (defined_depth (stored vs)) among.given) h in
      (or_parts own_deep (list_any (is_deep_rule (defined_depth (stored vs))) among.rules) p.0).0

  depth_only : exceeds_depth (children.Policy among) ≡ false → exceeds_depth (children.Policy only) ≡ false
  depth_only h =
      let p = or_parts (has_deep (children.Policy among)) (nat_lt 16 (depth (children.Policy among))) h in
      let flat : own_deep ≡ false = own_flat (sym (deep_of_policy among) ∙ p.0) in
      neither (deep_of_policy only ∙ deep_only ∙ ap (λ b. (b || false) || (false || false)) flat) (ap (nat_lt 16) (depth_of_policy only))

  bad_only : has_bad_variable among ≡ false → has_bad_variable only ≡ false
  unfolding policy_read given_read
  bad_only h = bad_by_use only (sound_variables among h).0

  -- where the other parts are typed without definitions, the policy is typed among them where they are
  typed_only : has_bad_variable bare ≡ false → policy_is_typed bare ≡ true → policy_is_typed among ≡ policy_is_typed only
  unfolding policy_read target_read given_read policy_is_typed target_is_typed given_is_typed
  typed_only good typed =
      let uses = (sound_variables bare good).1 in
      let p = and_parts (no_variable (flat_map rule_variables bare.rules)) (no_variable (given_variables bare.given))
      (sym (list_all-append (is_resolved []) (flat_map rule_variables bare.rules) (given_variables bare.given)) ∙ uses) in
      let all = four (target_is_typed bare.target) true (list_all (rule_is_typed []) bare.rules) (given_is_typed [] bare.given) typed in
      let rules_typed : list_all (rule_is_typed (stored vs)) bare.rules ≡ true =
      all_alone (rule_is_typed (stored vs)) (rule_is_typed []) rule_variables bare.rules (rule_alone (stored vs)) p.0 ∙ all.third in
      let given_typed : given_is_typed (stored vs) bare.given ≡ true = given_alone (stored vs) bare.given p.1 ∙ all.fourth in
      second_alone (target_is_typed bare.target) (list_all (definition_is_typed (stored vs)) (stored vs)) (list_all (rule_is_typed (stored vs)) bare.rules) (given_is_typed (stored vs) bare.given)
      all.first rules_typed given_typed

  -- nothing is told of no other parts
  none_beside : 9 ≤ beside target rules given → beside everything [] nothing_given ≡ 9
  unfolding beside target_read given_read target_fault given_fault
  none_beside h =
      let read = (each_read rule_read rules).value in
      none_least (rank (version_read (codes "1")).fault) (rank (rule_algorithm_read (codes "urn:oasis:names:tc:xacml:3.0:rule-combining-algorithm:deny-overrides")).fault)
      (rank (target_read target).fault) (rank (each_read rule_read rules).fault) (rank (given_read given).fault)
      (rank (name_fault (codes "-"))) (rank (if_so (has_double_rule read) Identifier)) (rank (length_fault read)) (rank (target_fault (target_read target).value))
      (rank (first_of (map rule_fault read))) (rank (given_fault (given_read given).value)) h

  -- so where types are told of the policy among definitions, they are told of the definitions alone
  whole_only : has_bad_variable bare ≡ false → policy_is_typed bare ≡ true → 8 ≤ whole among → whole only ≡ whole among
  unfolding policy_read
  whole_only good typed eight =
      let late : 8 ≤ place_by (has_bad_variable among) (exceeds_size (children.Policy among)) (exceeds_depth (children.Policy among)) (policy_is_typed among) = omega (arith, eight, whole_is among) in
      let first = types_alone (has_bad_variable among) (exceeds_size (children.Policy among)) (exceeds_depth (children.Policy among)) (policy_is_typed among) late in
      whole_is only
      ∙ ap (min (rank (length_fault (stored vs)))) (place_same (bad_only first.resolved ∙ sym first.resolved) (size_only first.within ∙ sym first.within) (depth_only first.flat ∙ sym first.flat) (sym (typed_only good typed)))
      ∙ sym (whole_is among)

  pub types_of_others : rank (fault_of (plain_policy target rules given [])) ≡ 9 → rank (fault_of (plain_policy target rules given vs)) ≡ 8 → rank (fault_of (of_rules [] vs)) ≡ 8
  unfolding of_rules
  types_of_others none types =
      let free : min (beside target rules given) (min (local []) (whole bare)) ≡ 9 = sym (rank_of_policy target rules given []) ∙ none in
      let here : min (beside target rules given) (min (local vs) (whole among)) ≡ 8 = sym (rank_of_policy target rules given vs) ∙ types in
      let late : 9 ≤ whole bare = omega (arith, free) in
      let good : has_bad_variable bare ≡ false = good_where_late bare (omega (arith, late)) in
      let placed : 9 ≤ place_by (has_bad_variable bare) (exceeds_size (children.Policy bare)) (exceeds_depth (children.Policy bare)) (policy_is_typed bare) = omega (arith, late, whole_is bare) in
      let typed : policy_is_typed bare ≡ true = typed_where_none (has_bad_variable bare) (exceeds_size (children.Policy bare)) (exceeds_depth (children.Policy bare)) (policy_is_typed bare) placed in
      let same : whole only ≡ whole among = whole_only good typed (omega (arith, here)) in
      let beside_none : beside everything [] nothing_given ≡ 9 = none_beside (omega (arith, free)) in
      rank_of_policy everything [] nothing_given vs ∙ omega (arith, here, free, same, beside_none)
