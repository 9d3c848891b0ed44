-- Expressions in one obligation: where nothing is told of all of them before types, the first of what is told of each is told of all.
use Rattle.std.proofs.Common.{◌≡◌, ℕ, suc, ◌+◌, ◌≤◌, min, List, [], ◌∷◌, ◌++◌, append-nil, length, map, Bool, true, false, not, nat_lt, ◌&&◌, ◌||◌, Option, Some, None, codes, refl, sym, ap, subst, ◌∙◌, arith}
use Rattle.std.specs.List.{flat_map, list_all, list_any, sum}
use Rattle.std.proofs.lemmas.Bool.{and_parts, or_parts}
use Rattle.std.proofs.lemmas.List.Folds.{list_all-append}
use Rattle.std.proofs.lemmas.List.Sums.{sum_by-cons}
use Rattle.ent_policy.specs.Check.{fault_of}
use Rattle.ent_policy.specs.Depths.{defined_depth, exceeds_depth, has_deep, has_deep_expression, depth, is_deep}
use Rattle.ent_policy.specs.First.{earlier, first_of, if_so}
use Rattle.ent_policy.specs.Limits.{assignment_fault, given_expression_fault, given_fault, has_double_rule, length_fault, name_fault, rule_fault, target_fault}
use Rattle.ent_policy.specs.Reading.{assignment_read, each_read, given_expression_read, given_read, policy_read, rule_algorithm_read, rule_read, target_read, version_read}
use Rattle.ent_policy.specs.Sizes.{defined_nodes, exceeds_size, nodes, nodes_with, policy_nodes, references}
use Rattle.ent_policy.specs.Typing.{assignment_is_typed, definition_is_typed, given_expression_is_typed, given_is_typed, policy_is_typed, target_is_typed}
use Rattle.ent_policy.specs.Variables.{assignment_variables, has_bad_variable, is_resolved, used}
use Rattle.ent_policy.specs.declared.document.Child.TheVariants as children
use Rattle.ent_policy.specs.declared.document.Effect.TheVariants.{Permit}
use Rattle.ent_policy.specs.declared.document.Policy.{Policy}
use Rattle.ent_policy.specs.declared.expression.VariableDefinition.{VariableDefinition}
use Rattle.ent_policy.specs.declared.fault.DocFault.{DocFault}
use Rattle.ent_policy.specs.declared.fault.DocFault.TheVariants.{Identifier, Size}
use Rattle.ent_policy.specs.declared.given.AssignmentExpression.{AssignmentExpression}
use Rattle.ent_policy.specs.declared.raw.RawAssignment.{RawAssignment}
use Rattle.ent_policy.specs.declared.raw.RawExpression.{RawExpression}
use Rattle.ent_policy.specs.declared.raw.RawGivenExpressions.{RawGivenExpressions}
use Rattle.ent_policy.specs.declared.raw.RawVariableDefinition.{RawVariableDefinition}
use Rattle.lint_places.specs.Told.{everything, of_assignments, of_expression, of_obligations}
use Rattle.lint_places.specs.proofs_only.Together.{assigned}
use Rattle.lint_places.proofs.Judged.{beside, local, rank_of_policy, stored, stored_policy, whole}
use Rattle.lint_places.proofs.Passing.{IsTypesAlone, at_most, deep_of_policy, depth_of_policy, neither, nodes_of_policy, not_above, place_by, place_same, references_of_policy, types_alone, whole_is}
use Rattle.lint_places.proofs.Ranks.{rank, rank_earlier}
use Rattle.lint_places.proofs.Resolved.{bad_by_use, sound_variables}

-- an obligation of some assignments
abbrev obliged : List RawAssignment → RawGivenExpressions
obliged ws = record { obligations = record { id = codes "-"; effect = Permit; assignments = ws } ∷ []; advice = [] }

-- assignments as they are stored
abbrev kept : List RawAssignment → List AssignmentExpression
kept ws = map (λ r. r.value) (map assignment_read ws)

-- the places of what can't be read of them, and of their limits
abbrev read_rank : List RawAssignment → ℕ
read_rank ws = rank (first_of (map (λ r. r.fault) (map assignment_read ws)))

abbrev limit_rank : List RawAssignment → ℕ
limit_rank ws = rank (first_of (map assignment_fault (kept ws)))

abbrev long_rank : List RawAssignment → ℕ
long_rank ws = rank (length_fault (kept ws))

-- ---- the least of the places of parts

rank_last : (o : Option DocFault) → rank (earlier o None) ≡ rank o
rank_last None = refl
rank_last (Some f) = refl

given_reads : (ws : List RawAssignment) → rank (given_read (obliged ws)).fault ≡ read_rank ws
unfolding given_read given_expression_read
given_reads ws =
    let found = first_of (map (λ r. r.fault) (map assignment_read ws)) in
    rank_last (earlier found None) ∙ rank_last found

given_limits : (ws : List RawAssignment) → rank (given_fault (given_read (obliged ws)).value) ≡ min (rank (name_fault (codes "-"))) (min (long_rank ws) (limit_rank ws))
unfolding given_read given_expression_read given_fault given_expression_fault
given_limits ws =
    let name = name_fault (codes "-") in
    let long = length_fault (kept ws) in
    let limits = first_of (map assignment_fault (kept ws)) in
    rank_last (earlier (earlier name (earlier long (earlier limits None))) None) ∙ rank_last (earlier name (earlier long (earlier limits None)))
    ∙ rank_earlier name (earlier long (earlier limits None)) ∙ ap (min (rank name)) (rank_earlier long (earlier limits None) ∙ ap (min (rank long)) (rank_last limits))

-- the same number before the least of two
spread_one : (c x y : ℕ) → min c (min x y) ≡ min (min c x) (min c y)
spread_one c x y = omega arith

spread_last : (x y : ℕ) → min (min x y) 9 ≡ min (min x 9) (min y 9)
spread_last x y = omega arith

spread_two : (a b x y : ℕ) → min a (min b (min x y)) ≡ min (min a (min b x)) (min a (min b y))
spread_two a b x y = ap (min a) (spread_one b x y) ∙ spread_one a (min b x) (min b y)

spread_four : (a b c d x y : ℕ) → min a (min b (min c (min d (min x y)))) ≡ min (min a (min b (min c (min d x)))) (min a (min b (min c (min d y))))
spread_four a b c d x y = ap (λ n. min a (min b n)) (spread_two c d x y) ∙ spread_two a b (min c (min d x)) (min c (min d y))

spread_five : (a b c d e x y : ℕ) → min a (min b (min c (min d (min e (min x y))))) ≡ min (min a (min b (min c (min d (min e x))))) (min a (min b (min c (min d (min e y)))))
spread_five a b c d e x y = ap (min a) (spread_four b c d e x y) ∙ spread_one a (min b (min c (min d (min e x)))) (min b (min c (min d (min e y))))

crossed : (a b c d : ℕ) → min (min a b) (min c d) ≡ min (min a c) (min b d)
crossed a b c d = omega arith

-- the least of the places of other parts, with those of what is read and of limits
abbrev least : (a b c d n p q r s : ℕ) → ℕ → ℕ → ℕ
least a b c d n p q r s x y = min (min a (min b (min c (min d (min x 9))))) (min n (min p (min q (min r (min s (min y 9))))))

least_of_two : (a b c d n p q r s x y u v : ℕ) → least a b c d n p q r s (min x y) (min u v) ≡ min (least a b c d n p q r s x u) (least a b c d n p q r s y v)
least_of_two a b c d n p q r s x y u v =
    let first : min a (min b (min c (min d (min (min x y) 9)))) ≡ min (min a (min b (min c (min d (min x 9))))) (min a (min b (min c (min d (min y 9))))) =
    ap (λ n. min a (min b (min c (min d n)))) (spread_last x y) ∙ spread_four a b c d (min x 9) (min y 9) in
    let second : min n (min p (min q (min r (min s (min (min u v) 9))))) ≡ min (min n (min p (min q (min r (min s (min u 9)))))) (min n (min p (min q (min r (min s (min v 9)))))) =
    ap (λ k. min n (min p (min q (min r (min s k))))) (spread_last u v) ∙ spread_five n p q r s (min u 9) (min v 9) in
    rw (first, second) (crossed (min a (min b (min c (min d (min x 9))))) (min a (min b (min c (min d (min y 9))))) (min n (min p (min q (min r (min s (min u 9)))))) (min n (min p (min q (min r (min s (min v 9)))))))

-- of a policy of nothing but an obligation
abbrev with_given : ℕ → ℕ → ℕ
with_given =
    least (rank (version_read (codes "1")).fault) (rank (rule_algorithm_read (codes "urn:oasis:names:tc:xacml:3.0:rule-combining-algorithm:deny-overrides")).fault)
    (rank (target_read everything).fault) (rank (each_read rule_read []).fault)
    (rank (name_fault (codes "-"))) (rank (if_so (has_double_rule (each_read rule_read []).value) Identifier)) (rank (length_fault (each_read rule_read []).value))
    (rank (target_fault (target_read everything).value)) (rank (first_of (map rule_fault (each_read rule_read []).value)))

abbrev limits_with : ℕ → ℕ → ℕ
limits_with long limits = min (rank (name_fault (codes "-"))) (min long limits)

beside_is : (ws : List RawAssignment) → beside everything [] (obliged ws) ≡ with_given (read_rank ws) (limits_with (long_rank ws) (limit_rank ws))
unfolding beside
beside_is ws = ap (λ r. with_given r (rank (given_fault (given_read (obliged ws)).value))) (given_reads ws) ∙ ap (with_given (read_rank ws)) (given_limits ws)

-- a list that isn't too long, and what is left of it
long_late : (b : Bool) → 8 ≤ rank (if_so b Size) → b ≡ false
long_late true h = absurd (omega (arith, h))
long_late false h = refl

not_long : {A : Type 0} (x : A) (xs : List A) → nat_lt 256 (length (x ∷ xs)) ≡ false → (rank (length_fault (x ∷ xs)) ≡ 9) × ((rank (length_fault (x ∷ [])) ≡ 9) × (rank (length_fault xs) ≡ 9))
not_long x xs h =
    let less : nat_lt 256 (length xs) ≡ false = not_above 256 (length xs) (omega (arith, at_most 256 (suc (length xs)) h)) in
    (ap (λ b. rank (if_so b Size)) h, (refl, ap (λ b. rank (if_so b Size)) less))

late_long : (a b c d n p q r s x name long limits : ℕ) → 8 ≤ least a b c d n p q r s x (min name (min long limits)) → 8 ≤ long
late_long a b c d n p q r s x name long limits h = omega (arith, h)

beside_late : (w : RawAssignment) (ws : List RawAssignment) → 8 ≤ beside everything [] (obliged (w ∷ ws))
    → beside everything [] (obliged (w ∷ ws)) ≡ min (beside everything [] (obliged (w ∷ []))) (beside everything [] (obliged ws))
beside_late w ws late =
    let own = (assignment_read w).value in
    let is : 8 ≤ with_given (read_rank (w ∷ ws)) (limits_with (long_rank (w ∷ ws)) (limit_rank (w ∷ ws))) = subst (λ n. 8 ≤ n) (beside_is (w ∷ ws)) late in
    let long : nat_lt 256 (length (kept (w ∷ ws))) ≡ false = long_late (nat_lt 256 (length (kept (w ∷ ws)))) (late_long _ _ _ _ _ _ _ _ _ _ (rank (name_fault (codes "-"))) (long_rank (w ∷ ws)) (limit_rank (w ∷ ws)) is) in
    let lengths = not_long own (kept ws) long in
    let reads : read_rank (w ∷ ws) ≡ min (read_rank (w ∷ [])) (read_rank ws) =
    rank_earlier (assignment_read w).fault (first_of (map (λ r. r.fault) (map assignment_read ws))) ∙ ap (λ n. min n (read_rank ws)) (sym (rank_last (assignment_read w).fault)) in
    let bounds : limit_rank (w ∷ ws) ≡ min (limit_rank (w ∷ [])) (limit_rank ws) =
    rank_earlier (assignment_fault own) (first_of (map assignment_fault (kept ws))) ∙ ap (λ n. min n (limit_rank ws)) (sym (rank_last (assignment_fault own))) in
    let limits : limits_with (long_rank (w ∷ ws)) (limit_rank (w ∷ ws)) ≡ min (limits_with (long_rank (w ∷ [])) (limit_rank (w ∷ []))) (limits_with (long_rank ws) (limit_rank ws)) =
    rw (lengths.0, lengths.1.0, lengths.1.1, bounds) (nines (rank (name_fault (codes "-"))) (limit_rank (w ∷ [])) (limit_rank ws)) in
    beside_is (w ∷ ws) ∙ rw (reads, limits) (least_of_two _ _ _ _ _ _ _ _ _ (read_rank (w ∷ [])) (read_rank ws) (limits_with (long_rank (w ∷ [])) (limit_rank (w ∷ []))) (limits_with (long_rank ws) (limit_rank ws)))
    ∙ sym (ap (λ n. min n (beside everything [] (obliged ws))) (beside_is (w ∷ [])) ∙ ap (min (with_given (read_rank (w ∷ [])) (limits_with (long_rank (w ∷ [])) (limit_rank (w ∷ []))))) (beside_is ws))
  where
    nines : (name x y : ℕ) → min name (min 9 (min x y)) ≡ min (min name (min 9 x)) (min name (min 9 y))
    nines name x y = spread_two name 9 x y

-- ---- the policy as a whole

or_none : (a b : Bool) → ((a || false) || ((b || false) || false)) ≡ (a || b)
or_none true b = refl
or_none false true = refl
or_none false false = refl

and_all : (a b : Bool) → (true && a && true && ((b && true) && true)) ≡ (a && b)
and_all true true = refl
and_all true false = refl
and_all false b = refl

module _ (vs : List RawVariableDefinition) where
  abbrev policy : List RawAssignment → Policy
  policy ws = stored_policy everything [] (obliged ws) vs

  abbrev own_nodes : ℕ
  own_nodes = sum (map (λ (d : VariableDefinition). nodes_with (defined_nodes (stored vs)) d.expression) (stored vs))

  abbrev nodes_of : List RawAssignment → ℕ
  nodes_of ws = sum (map (λ (a : AssignmentExpression). nodes_with (defined_nodes (stored vs)) a.expression) (kept ws))

  nodes_are : (ws : List RawAssignment) → policy_nodes (policy ws) ≡ own_nodes + nodes_of ws
  unfolding policy_read target_read given_read given_expression_read
  nodes_are ws = rw (sum_by-cons (λ n. n) (nodes_of ws) []) (alone own_nodes (nodes_of ws))
    where
      alone : (o n : ℕ) → 0 + o + 0 + (n + 0 + 0) ≡ o + n
      alone o n = omega arith

  abbrev own_deep : Bool
  own_deep = list_any (λ (d : VariableDefinition). is_deep (defined_depth (stored vs)) d.expression) (stored vs)

  abbrev deep_of : List RawAssignment → Bool
  deep_of ws = list_any (λ (a : AssignmentExpression). is_deep (defined_depth (stored vs)) a.expression) (kept ws)

  deep_is : (ws : List RawAssignment) → has_deep_expression (policy ws) ≡ (own_deep || deep_of ws)
  unfolding policy_read given_read given_expression_read
  deep_is ws = or_none own_deep (deep_of ws)

  abbrev own_typed : Bool
  own_typed = list_all (definition_is_typed (stored vs)) (stored vs)

  abbrev typed_of : List RawAssignment → Bool
  typed_of ws = list_all (assignment_is_typed (stored vs)) (kept ws)

  typed_is : (ws : List RawAssignment) → policy_is_typed (policy ws) ≡ (own_typed && typed_of ws)
  unfolding policy_read target_read given_read given_expression_read policy_is_typed target_is_typed given_is_typed given_expression_is_typed
  typed_is ws = and_all own_typed (typed_of ws)

  abbrev uses : List RawAssignment → List (List ℕ)
  uses ws = flat_map assignment_variables (kept ws)

  used_is : (ws : List RawAssignment) → used (policy ws) ≡ uses ws
  unfolding policy_read given_read given_expression_read
  used_is ws = append-nil (uses ws ++ []) ∙ append-nil (uses ws)

  variables_are : (ws : List RawAssignment) → (policy ws).variables ≡ stored vs
  unfolding policy_read
  variables_are ws = refl

  -- whether each variable that is used leads to an end
  abbrev resolves : List RawAssignment → Bool
  resolves ws = list_all (is_resolved (stored vs)) (uses ws)

  -- among sound definitions
  resolved_where_good : (ws : List RawAssignment) → has_bad_variable (policy ws) ≡ false → resolves ws ≡ true
  unfolding policy_read
  resolved_where_good ws good = ap (list_all (is_resolved (stored vs))) (sym (used_is ws)) ∙ (sound_variables (policy ws) good).1

  good_where_resolved : (ws other : List RawAssignment) → has_bad_variable (policy other) ≡ false → resolves ws ≡ true → has_bad_variable (policy ws) ≡ false
  unfolding policy_read
  good_where_resolved ws other good h =
      bad_by_use (policy ws) (sound_variables (policy other) good).0 ∙ ap not (ap (list_all (is_resolved (stored vs))) (used_is ws) ∙ h)

  size_within : (ws more : List RawAssignment) → nodes_of ws ≤ nodes_of more → exceeds_size (children.Policy (policy more)) ≡ false → exceeds_size (children.Policy (policy ws)) ≡ false
  size_within ws more le h =
      let p = or_parts (nat_lt 65536 (nodes (children.Policy (policy more)))) (nat_lt 32 (references (children.Policy (policy more)))) h in
      let most : policy_nodes (policy more) ≤ 65536 = subst (λ n. n ≤ 65536) (nodes_of_policy (policy more)) (at_most 65536 (nodes (children.Policy (policy more))) p.0) in
      neither (ap (nat_lt 65536) (nodes_of_policy (policy ws) ∙ nodes_are ws) ∙ not_above 65536 (own_nodes + nodes_of ws) (omega (arith, le, most, nodes_are more)))
      (ap (nat_lt 32) (references_of_policy (policy ws)))

  deep_within : (ws more : List RawAssignment) → (deep_of more ≡ false → deep_of ws ≡ false) → exceeds_depth (children.Policy (policy more)) ≡ false → exceeds_depth (children.Policy (policy ws)) ≡ false
  deep_within ws more less h =
      let p = or_parts (has_deep (children.Policy (policy more))) (nat_lt 16 (depth (children.Policy (policy more)))) h in
      let q = or_parts own_deep (deep_of more) (sym (deep_of_policy (policy more) ∙ deep_is more) ∙ p.0) in
      neither (deep_of_policy (policy ws) ∙ deep_is ws ∙ neither q.0 (less q.1)) (ap (nat_lt 16) (depth_of_policy (policy ws)))

  -- where nothing is told before types of some assignments, their place is told by types alone
  typed_place : (ws : List RawAssignment) → IsTypesAlone (has_bad_variable (policy ws)) (exceeds_size (children.Policy (policy ws))) (exceeds_depth (children.Policy (policy ws)))
      → whole (policy ws) ≡ min (rank (length_fault (stored vs))) (place_by false false false (own_typed && typed_of ws))
  unfolding policy_read
  typed_place ws free = whole_is (policy ws) ∙ ap (min (rank (length_fault (stored vs)))) (place_same free.resolved free.within free.flat (typed_is ws))

  sum_more : (w : RawAssignment) (ws : List RawAssignment) → nodes_of (w ∷ ws) ≡ nodes_of (w ∷ []) + nodes_of ws
  sum_more w ws =
      let n = nodes_with (defined_nodes (stored vs)) (assignment_read w).value.expression in
      sum_by-cons (λ k. k) n (map (λ (a : AssignmentExpression). nodes_with (defined_nodes (stored vs)) a.expression) (kept ws))
      ∙ ap (λ k. k + nodes_of ws) (sym (sum_by-cons (λ k. k) n [] ∙ no_more n))
    where
      no_more : (n : ℕ) → n + 0 ≡ n
      no_more n = omega arith

  typed_both : (L : ℕ) (d a b : Bool) → min L (place_by false false false (d && (a && b))) ≡ min (min L (place_by false false false (d && (a && true)))) (min L (place_by false false false (d && b)))
  typed_both L true true true = omega arith
  typed_both L true true false = omega arith
  typed_both L true false true = omega arith
  typed_both L true false false = omega arith
  typed_both L false a b = omega arith

  whole_late : (w : RawAssignment) (ws : List RawAssignment) → 8 ≤ whole (policy (w ∷ ws)) → whole (policy (w ∷ ws)) ≡ min (whole (policy (w ∷ []))) (whole (policy ws))
  whole_late w ws eight =
      let all = w ∷ ws in
      let late : 8 ≤ place_by (has_bad_variable (policy all)) (exceeds_size (children.Policy (policy all))) (exceeds_depth (children.Policy (policy all))) (policy_is_typed (policy all)) =
      omega (arith, eight, whole_is (policy all)) in
      let free = types_alone (has_bad_variable (policy all)) (exceeds_size (children.Policy (policy all))) (exceeds_depth (children.Policy (policy all))) (policy_is_typed (policy all)) late in
      let own = (assignment_read w).value in
      let test = is_resolved (stored vs) in
      let both = and_parts (list_all test (assignment_variables own)) (resolves ws) (sym (list_all-append test (assignment_variables own) (uses ws)) ∙ resolved_where_good all free.resolved) in
      let one : resolves (w ∷ []) ≡ true = ap (list_all test) (append-nil (assignment_variables own)) ∙ both.0 in
      let sums = sum_more w ws in
      let here : IsTypesAlone (has_bad_variable (policy (w ∷ []))) (exceeds_size (children.Policy (policy (w ∷ [])))) (exceeds_depth (children.Policy (policy (w ∷ [])))) = record {
        resolved = good_where_resolved (w ∷ []) all free.resolved one;
        within = size_within (w ∷ []) all (omega (arith, sums)) free.within;
        flat = deep_within (w ∷ []) all (λ h. neither (or_parts (is_deep (defined_depth (stored vs)) own.expression) (deep_of ws) h).0 refl) free.flat;
      } in
      let rest : IsTypesAlone (has_bad_variable (policy ws)) (exceeds_size (children.Policy (policy ws))) (exceeds_depth (children.Policy (policy ws))) = record {
        resolved = good_where_resolved ws all free.resolved both.1;
        within = size_within ws all (omega (arith, sums)) free.within;
        flat = deep_within ws all (λ h. (or_parts (is_deep (defined_depth (stored vs)) own.expression) (deep_of ws) h).1) free.flat;
      } in
      typed_place all free ∙ typed_both (rank (length_fault (stored vs))) own_typed (assignment_is_typed (stored vs) own) (typed_of ws)
      ∙ sym (ap (λ n. min n (whole (policy ws))) (typed_place (w ∷ []) here) ∙ ap (min (min (rank (length_fault (stored vs))) (place_by false false false (own_typed && typed_of (w ∷ []))))) (typed_place ws rest))

  -- ---- what is told of them

  abbrev told_of : List RawAssignment → Option DocFault
  told_of ws = fault_of (of_assignments ws vs)

  rank_of : (ws : List RawAssignment) → rank (told_of ws) ≡ min (beside everything [] (obliged ws)) (min (local vs) (whole (policy ws)))
  unfolding of_assignments of_obligations
  rank_of ws = rank_of_policy everything [] (obliged ws) vs

  one_more : (w : RawAssignment) (ws : List RawAssignment) → 8 ≤ rank (told_of (w ∷ ws)) → rank (told_of (w ∷ ws)) ≡ min (rank (told_of (w ∷ []))) (rank (told_of ws))
  one_more w ws late =
      let is = rank_of (w ∷ ws) in
      let others = beside_late w ws (omega (arith, late, is)) in
      let wholes = whole_late w ws (omega (arith, late, is)) in
      is ∙ rw (others, wholes) (mixed (beside everything [] (obliged (w ∷ []))) (beside everything [] (obliged ws)) (local vs) (whole (policy (w ∷ []))) (whole (policy ws)))
      ∙ sym (ap (λ n. min n (rank (told_of ws))) (rank_of (w ∷ [])) ∙ ap (min (min (beside everything [] (obliged (w ∷ []))) (min (local vs) (whole (policy (w ∷ [])))))) (rank_of ws))
    where
      mixed : (a b l p q : ℕ) → min (min a b) (min l (min p q)) ≡ min (min a (min l p)) (min b (min l q))
      mixed a b l p q = omega arith

  abbrev told_alone : RawExpression → Option DocFault
  told_alone x = fault_of (of_expression x vs)

  alone_is : (x : RawExpression) → told_alone x ≡ told_of (assigned x ∷ [])
  unfolding of_expression
  alone_is x = refl

  -- the first of what is told of each
  pub told_together : (x : RawExpression) (xs : List RawExpression) → 8 ≤ rank (told_of (map assigned (x ∷ xs)))
      → rank (first_of (map told_alone (x ∷ xs))) ≡ rank (told_of (map assigned (x ∷ xs)))
  told_together x [] late = rank_last (told_alone x) ∙ ap rank (alone_is x)
  told_together x (y ∷ ys) late =
      let is = one_more (assigned x) (map assigned (y ∷ ys)) late in
      let rest = told_together y ys (omega (arith, late, is)) in
      rank_earlier (told_alone x) (first_of (map told_alone (y ∷ ys))) ∙ ap (λ o. min (rank o) (rank (first_of (map told_alone (y ∷ ys))))) (alone_is x)
      ∙ ap (min (rank (told_of (assigned x ∷ [])))) rest ∙ sym is
