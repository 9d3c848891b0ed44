-- The first fault of a policy, as the least of the faults of its parts, of its definitions, and of the whole.
use Rattle.std.proofs.Common.{◌≡◌, ℕ, ◌≤◌, ◌<◌, min, List, [], ◌∷◌, ◌++◌, length, map, Bool, true, false, not, nat_lt, Option, None, refl, sym, ap, subst, ◌∙◌, codes, arith}
use Rattle.std.proofs.lemmas.Bool.{false_from_ne_true}
use Rattle.ent_policy.specs.Check.{fault_of, tree_fault, whole_fault}
use Rattle.ent_policy.specs.Depths.{exceeds_depth}
use Rattle.ent_policy.specs.First.{earlier, first_of, if_so}
use Rattle.ent_policy.specs.Limits.{child_limits, definition_fault, given_fault, has_double_rule, length_fault, limit_fault, name_fault, policy_fault, rule_fault, set_limits, target_fault}
use Rattle.ent_policy.specs.Reading.{definition_read, each_read, given_read, policy_read, rule_algorithm_read, rule_read, target_read, version_read}
use Rattle.ent_policy.specs.Sizes.{exceeds_size}
use Rattle.ent_policy.specs.Typing.{is_typed}
use Rattle.ent_policy.specs.Variables.{has_bad_variable, has_variable_fault, ids_of, variables_of_child, variables_of_set}
use Rattle.ent_policy.specs.declared.document.Child.{Child}
use Rattle.ent_policy.specs.declared.document.Child.TheFolds.{fold-roll-Child}
use Rattle.ent_policy.specs.declared.document.Child.TheOpen.{Child-F}
use Rattle.ent_policy.specs.declared.document.Child.TheVariants as children
use Rattle.ent_policy.specs.declared.document.Policy.{Policy}
use Rattle.ent_policy.specs.declared.expression.VariableDefinition.{VariableDefinition}
use Rattle.ent_policy.specs.declared.fault.DocFault.{DocFault}
use Rattle.ent_policy.specs.declared.fault.DocFault.TheVariants.{Identifier, Variable, Size, Depth, «Type»}
use Rattle.ent_policy.specs.declared.raw.RawGivenExpressions.{RawGivenExpressions}
use Rattle.ent_policy.specs.declared.raw.RawRule.{RawRule}
use Rattle.ent_policy.specs.declared.raw.RawTarget.{RawTarget}
use Rattle.ent_policy.specs.declared.raw.RawVariableDefinition.{RawVariableDefinition}
use Rattle.lint_places.specs.Told.{plain_policy}
use Rattle.lint_places.proofs.Ranks.{rank, rank_earlier, rank_most}
use Rattle.lint_places.proofs.Resolved.{AreSound, bad_together, sound_variables}

-- definitions as they are stored
abbrev pub stored : List RawVariableDefinition → List VariableDefinition
stored vs = (each_read definition_read vs).value

-- a policy of these parts, as it is stored
abbrev pub stored_policy : RawTarget → List RawRule → RawGivenExpressions → List RawVariableDefinition → Policy
stored_policy target rules given vs = (policy_read (record {
  id = codes "-";
  version = codes "1";
  algorithm = codes "urn:oasis:names:tc:xacml:3.0:rule-combining-algorithm:deny-overrides";
  target = target;
  variables = vs;
  rules = rules;
  given = given;
})).value

-- the first fault of a name or a value in it that can't be read
abbrev read_fault : RawTarget → List RawRule → RawGivenExpressions → List RawVariableDefinition → Option DocFault
read_fault target rules given vs = (policy_read (record {
  id = codes "-";
  version = codes "1";
  algorithm = codes "urn:oasis:names:tc:xacml:3.0:rule-combining-algorithm:deny-overrides";
  target = target;
  variables = vs;
  rules = rules;
  given = given;
})).fault

-- the least place of the faults of its other parts
unfoldable pub beside : RawTarget → List RawRule → RawGivenExpressions → ℕ
beside target rules given =
    min (min (rank (version_read (codes "1")).fault)
    (min (rank (rule_algorithm_read (codes "urn:oasis:names:tc:xacml:3.0:rule-combining-algorithm:deny-overrides")).fault)
    (min (rank (target_read target).fault)
    (min (rank (each_read rule_read rules).fault)
    (min (rank (given_read given).fault) 9)))))
    (min (rank (name_fault (codes "-")))
    (min (rank (if_so (has_double_rule (each_read rule_read rules).value) Identifier))
    (min (rank (length_fault (each_read rule_read rules).value))
    (min (rank (target_fault (target_read target).value))
    (min (rank (first_of (map rule_fault (each_read rule_read rules).value)))
    (min (rank (given_fault (given_read given).value)) 9))))))

-- the least place of the faults of its definitions, each by itself
unfoldable pub local : List RawVariableDefinition → ℕ
local vs = min (rank (each_read definition_read vs).fault) (rank (first_of (map definition_fault (stored vs))))

-- the place of the first fault of a policy as a whole, and of the number of its definitions
unfoldable pub whole : Policy → ℕ
whole p = min (rank (length_fault p.variables)) (rank (whole_fault (children.Policy p)))

limits_of_policy : (p : Policy) → limit_fault (children.Policy p) ≡ policy_fault p
unfolding Rattle.ent_policy.specs.declared.document.Child.TheViews.roll-Child denote.Hole.Carrier.roll
limits_of_policy p = fold-roll-Child (Option DocFault) (Option DocFault) child_limits set_limits (Child-F.Policy p)

pub variables_of_policy : (p : Policy) → has_variable_fault (children.Policy p) ≡ has_bad_variable p
unfolding Rattle.ent_policy.specs.declared.document.Child.TheViews.roll-Child denote.Hole.Carrier.roll
variables_of_policy p = fold-roll-Child Bool Bool variables_of_child variables_of_set (Child-F.Policy p)

-- ---- the least of some numbers, in another order

pull : (a v r : ℕ) → min a (min v r) ≡ min v (min a r)
pull a v r = omega arith

group : (a b c : ℕ) → min (min a b) c ≡ min a (min b c)
group a b c = omega arith

pull_read : (a b c d r : ℕ) → min a (min b (min c (min d r))) ≡ min d (min a (min b (min c r)))
pull_read a b c d r = ap (λ n. min a (min b n)) (pull c d r) ∙ ap (min a) (pull b d (min c r)) ∙ pull a d (min b (min c r))

pull_limits : (a b v c d w r : ℕ) → min a (min b (min v (min c (min d (min w r))))) ≡ min v (min w (min a (min b (min c (min d r)))))
pull_limits a b v c d w r =
    ap (λ n. min a (min b (min v n))) (ap (min c) (pull d w r) ∙ pull c w (min d r))
    ∙ ap (min a) (pull b v (min w (min c (min d r)))) ∙ pull a v (min b (min w (min c (min d r))))
    ∙ ap (min v) (ap (min a) (pull b w (min c (min d r))) ∙ pull a w (min b (min c (min d r))))

sorted : (d x v f y w : ℕ) → min (min d x) (min (min v (min f y)) w) ≡ min (min x y) (min (min d f) (min v w))
sorted d x v f y w =
    group d x (min (min v (min f y)) w) ∙ ap (λ n. min d (min x n)) (group v (min f y) w ∙ ap (min v) (group f y w))
    ∙ sym (group x y (min (min d f) (min v w)) ∙ ap (λ n. min x (min y n)) (group d f (min v w)) ∙ ap (min x) (pull y d (min f (min v w))) ∙ pull x d (min y (min f (min v w)))
    ∙ ap (λ n. min d (min x n)) (ap (min y) (pull f v w) ∙ pull y v (min f w) ∙ ap (min v) (pull y f w)))

-- the first of what is read, of the limits and of the whole
spread : (a b c d e g n p v q t w r h o : Option DocFault)
    → rank (earlier (earlier a (earlier b (earlier c (earlier d (earlier e (earlier g None)))))) (earlier (first_of (n ∷ p ∷ v ∷ q ∷ t ∷ w ∷ r ∷ h ∷ [])) o))
    ≡ min (min (min (rank a) (min (rank b) (min (rank c) (min (rank e) (min (rank g) 9))))) (min (rank n) (min (rank p) (min (rank q) (min (rank t) (min (rank r) (min (rank h) 9)))))))
    (min (min (rank d) (rank w)) (min (rank v) (rank o)))
spread a b c d e g n p v q t w r h o =
    rank_earlier (earlier a (earlier b (earlier c (earlier d (earlier e (earlier g None)))))) (earlier (first_of (n ∷ p ∷ v ∷ q ∷ t ∷ w ∷ r ∷ h ∷ [])) o)
    ∙ ap (λ k. min k (rank (earlier (first_of (n ∷ p ∷ v ∷ q ∷ t ∷ w ∷ r ∷ h ∷ [])) o))) (simp rank_earlier refl ∙ pull_read (rank a) (rank b) (rank c) (rank d) (min (rank e) (min (rank g) 9)))
    ∙ ap (min (min (rank d) (min (rank a) (min (rank b) (min (rank c) (min (rank e) (min (rank g) 9)))))))
    (rank_earlier (first_of (n ∷ p ∷ v ∷ q ∷ t ∷ w ∷ r ∷ h ∷ [])) o
    ∙ ap (λ k. min k (rank o)) (listed n p v q t w r h ∙ pull_limits (rank n) (rank p) (rank v) (rank q) (rank t) (rank w) (min (rank r) (min (rank h) 9))))
    ∙ sorted (rank d) (min (rank a) (min (rank b) (min (rank c) (min (rank e) (min (rank g) 9))))) (rank v) (rank w) (min (rank n) (min (rank p) (min (rank q) (min (rank t) (min (rank r) (min (rank h) 9)))))) (rank o)
  where
    listed : (n p v q t w r h : Option DocFault) → rank (first_of (n ∷ p ∷ v ∷ q ∷ t ∷ w ∷ r ∷ h ∷ []))
        ≡ min (rank n) (min (rank p) (min (rank v) (min (rank q) (min (rank t) (min (rank w) (min (rank r) (min (rank h) 9)))))))
    listed n p v q t w r h = simp rank_earlier refl

-- the first fault is the least
pub rank_of_policy : (target : RawTarget) (rules : List RawRule) (given : RawGivenExpressions) (vs : List RawVariableDefinition)
    → rank (fault_of (plain_policy target rules given vs)) ≡ min (beside target rules given) (min (local vs) (whole (stored_policy target rules given vs)))
unfolding plain_policy fault_of tree_fault policy_read policy_fault beside local whole
rank_of_policy target rules given vs =
    let p = stored_policy target rules given vs in
    let read = (each_read rule_read rules).value in
    ap (λ l. rank (earlier (read_fault target rules given vs) (earlier l (whole_fault (children.Policy p))))) (limits_of_policy p)
    ∙ spread (version_read (codes "1")).fault (rule_algorithm_read (codes "urn:oasis:names:tc:xacml:3.0:rule-combining-algorithm:deny-overrides")).fault (target_read target).fault
    (each_read definition_read vs).fault (each_read rule_read rules).fault (given_read given).fault
    (name_fault (codes "-")) (if_so (has_double_rule read) Identifier) (length_fault (stored vs)) (length_fault read) (target_fault (target_read target).value)
    (first_of (map definition_fault (stored vs))) (first_of (map rule_fault read)) (given_fault (given_read given).value) (whole_fault (children.Policy p))

-- with a bad variable, and without
bad_first : (b c d : Bool) → rank (first_of (if_so true Variable ∷ if_so b Size ∷ if_so c Depth ∷ if_so d «Type» ∷ [])) ≡ 5
bad_first true true true = refl
bad_first true true false = refl
bad_first true false true = refl
bad_first true false false = refl
bad_first false true true = refl
bad_first false true false = refl
bad_first false false true = refl
bad_first false false false = refl

good_first : (b c d : Bool) → 6 ≤ rank (first_of (if_so false Variable ∷ if_so b Size ∷ if_so c Depth ∷ if_so d «Type» ∷ []))
good_first true true true = omega arith
good_first true true false = omega arith
good_first true false true = omega arith
good_first true false false = omega arith
good_first false true true = omega arith
good_first false true false = omega arith
good_first false false true = omega arith
good_first false false false = omega arith

module _ (p : Policy) where
  abbrev with_bad : Bool → ℕ
  with_bad b = rank (first_of (if_so b Variable ∷ if_so (exceeds_size (children.Policy p)) Size ∷ if_so (exceeds_depth (children.Policy p)) Depth ∷ if_so (not (is_typed (children.Policy p))) «Type» ∷ []))

  long_rank : (b : Bool) → 6 ≤ rank (if_so b Size)
  long_rank true = omega arith
  long_rank false = omega arith

  -- the first fault of the whole is a bad variable, or told later
  pub whole_bad : has_bad_variable p ≡ true → whole p ≡ 5
  unfolding whole
  whole_bad h =
      let bad : rank (whole_fault (children.Policy p)) ≡ 5 =
      ap with_bad (variables_of_policy p ∙ h) ∙ bad_first (exceeds_size (children.Policy p)) (exceeds_depth (children.Policy p)) (not (is_typed (children.Policy p))) in
      omega (arith, bad, long_rank (nat_lt 256 (length p.variables)))

  pub whole_good : has_bad_variable p ≡ false → 6 ≤ whole p
  unfolding whole
  whole_good h =
      let good : 6 ≤ rank (whole_fault (children.Policy p)) = subst (λ b. 6 ≤ with_bad b) (sym (variables_of_policy p ∙ h))
      (good_first (exceeds_size (children.Policy p)) (exceeds_depth (children.Policy p)) (not (is_typed (children.Policy p)))) in
      omega (arith, good, long_rank (nat_lt 256 (length p.variables)))

  pub whole_is_late : 5 ≤ whole p
  whole_is_late = at (has_bad_variable p) refl
    where
      at : (b : Bool) → has_bad_variable p ≡ b → 5 ≤ whole p
      at true h = omega (arith, whole_bad h)
      at false h = omega (arith, whole_good h)

  pub good_where_late : 5 < whole p → has_bad_variable p ≡ false
  good_where_late late = false_from_ne_true (has_bad_variable p) (λ bad. absurd (omega (arith, whole_bad bad, late)))

  pub bad_where_not_late : whole p ≡ 5 → has_bad_variable p ≡ true
  bad_where_not_late h = at (has_bad_variable p) refl
    where
      at : (b : Bool) → has_bad_variable p ≡ b → b ≡ true
      at true e = refl
      at false e = absurd (omega (arith, whole_good e, h))

-- ---- the definitions of a policy

pub local_none : local [] ≡ 9
unfolding local
local_none = refl

local_most : (vs : List RawVariableDefinition) → local vs ≤ 9
unfolding local
local_most vs = omega (arith, rank_most (each_read definition_read vs).fault)

-- those of one definition more
pub local_cons : (v : RawVariableDefinition) (vs : List RawVariableDefinition) → local (v ∷ vs) ≡ min (local (v ∷ [])) (local vs)
unfolding local
local_cons v vs =
    let found = (definition_read v).fault in
    let over = definition_fault (definition_read v).value in
    rw (rank_earlier found (each_read definition_read vs).fault, rank_earlier found None, rank_earlier over (first_of (map definition_fault (stored vs))), rank_earlier over None)
    (crossed (rank found) (rank over) (rank (each_read definition_read vs).fault) (rank (first_of (map definition_fault (stored vs)))) (rank_most found) (rank_most over))
  where
    crossed : (a b c d : ℕ) → a ≤ 9 → b ≤ 9 → min (min a c) (min b d) ≡ min (min (min a 9) (min b 9)) (min c d)
    crossed a b c d h k = omega (arith, h, k)

-- those of two lists
pub local_append : (vs ws : List RawVariableDefinition) → local (vs ++ ws) ≡ min (local vs) (local ws)
local_append [] ws = omega (arith, local_none, local_most ws)
local_append (v ∷ vs) ws = omega (arith, local_cons v (vs ++ ws), local_cons v vs, local_append vs ws)

pub stored_append : (vs ws : List RawVariableDefinition) → stored (vs ++ ws) ≡ stored vs ++ stored ws
stored_append [] ws = refl
stored_append (v ∷ vs) ws = ap (λ ds. (definition_read v).value ∷ ds) (stored_append vs ws)

-- their ids are those that were read
pub stored_ids : (vs : List RawVariableDefinition) → ids_of (stored vs) ≡ map (λ v. v.id) vs
unfolding definition_read
stored_ids [] = refl
stored_ids (v ∷ vs) = ap (λ ids. v.id ∷ ids) (stored_ids vs)

-- ---- policies with other definitions

module _ (target : RawTarget) (rules : List RawRule) (given : RawGivenExpressions) (vs ws : List RawVariableDefinition) where
  -- where the definitions lead to ends and have the same names, both policies have a bad variable or neither
  pub bad_with_either : AreSound (stored vs) → AreSound (stored ws) → ids_of (stored vs) ≡ ids_of (stored ws)
      → has_bad_variable (stored_policy target rules given vs) ≡ has_bad_variable (stored_policy target rules given ws)
  unfolding policy_read
  bad_with_either s t same = bad_together (stored_policy target rules given vs) (stored_policy target rules given ws) s t same refl

-- definitions that a policy doesn't call bad lead to ends
pub sound_in_policy : (target : RawTarget) (rules : List RawRule) (given : RawGivenExpressions) (vs : List RawVariableDefinition)
    → has_bad_variable (stored_policy target rules given vs) ≡ false → AreSound (stored vs)
unfolding policy_read
sound_in_policy target rules given vs h = (sound_variables (stored_policy target rules given vs) h).0
