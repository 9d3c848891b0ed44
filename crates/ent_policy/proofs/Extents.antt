-- What stands in parts of documents.
use Rattle.std.proofs.Common.{◌≡◌, ℕ, ◌+◌, ◌*◌, min, List, [], ◌∷◌, length, map, Bool, true, false, ◌&&◌, ◌||◌, ◌==◌, nat_lt, not, Option, Some, None, is_some, refl, sym, ap, ◌∙◌, arith}
use Rattle.std.proofs.lemmas.Bool.Decides.{nat_tests}
use Rattle.std.proofs.lemmas.List.Folds.{list_all-map}
use Rattle.std.proofs.lemmas.List.Sums.{sum_by-cons}
use Rattle.std.proofs.Math.Bool.{and_assoc, and-true, or_assoc, or-false}
use Rattle.std.specs.List.{fold, list_all, list_any, sum}
use Rattle.ent_functions.specs.declared.types.ArgType.{ArgType}
use Rattle.ent_policy.specs.declared.document.AllOf.{AllOf}
use Rattle.ent_policy.specs.declared.document.AnyOf.{AnyOf}
use Rattle.ent_policy.specs.declared.document.Policy.{Policy}
use Rattle.ent_policy.specs.declared.document.PolicySet.{PolicySet}
use Rattle.ent_policy.specs.declared.document.Rule.{Rule}
use Rattle.ent_policy.specs.declared.document.Target.{Target}
use Rattle.ent_policy.specs.declared.document.Child.TheVariants as children
use Rattle.ent_policy.specs.declared.document.Child.TheOpen.{Child-F}
use Rattle.ent_policy.specs.declared.document.Child.TheFolds.{fold-roll-Child, fold_out-PolicySet}
use Rattle.ent_policy.specs.declared.expression.Expression.{Expression}
use Rattle.ent_policy.specs.declared.expression.VariableDefinition.{VariableDefinition}
use Rattle.ent_policy.specs.declared.extent.Extent.{Extent}
use Rattle.ent_policy.specs.declared.given.AssignmentExpression.{AssignmentExpression}
use Rattle.ent_policy.specs.declared.given.GivenExpression.{GivenExpression}
use Rattle.ent_policy.specs.declared.given.GivenExpressions.{GivenExpressions}
use Rattle.ent_policy.specs.declared.key.Reference.{Reference}
use Rattle.ent_policy.specs.Depths.{deep_in_set, deep_in_child, defined_depth, depth, depth_with, greatest, has_deep, is_deep, is_deep_condition, is_deep_given, is_deep_given_expression, is_deep_rule, set_depth_step, child_depth_step}
use Rattle.ent_policy.specs.proofs_only.Measure.{IsExtentOf, IsExtentOfPolicy, IsTableOf, Table, all_of_extent, any_of_extent, assignment_extent, condition_extent, definition_extent, found, given_expression_extent, given_extent, limited, match_extent, measured_extent, measured_with, policy_extent, rule_extent, target_extent, together, child_extent, whole}
use Rattle.ent_policy.specs.Sizes.{any_of_nodes, child_nodes_step, child_references_step, condition_nodes, defined_nodes, given_expression_nodes, given_nodes, nodes, nodes_with, references, rule_nodes, set_nodes_step, set_references_step, target_nodes}
use Rattle.ent_policy.specs.Typing.{all_of_is_typed, any_of_is_typed, assignment_is_typed, condition_is_typed, definition_is_typed, given_expression_is_typed, given_is_typed, held, is_boolean, is_typed, match_is_typed, policy_is_typed, rule_is_typed, set_step, target_is_typed, child_step, type_in}
use Rattle.ent_policy.specs.Variables.{given_variables, has_variable_fault, is_resolved, variables, variables_of_set, variables_of_child}
use Rattle.ent_policy.proofs.Measures.{cut, measured_agrees}
use Rattle.ent_policy.proofs.Filling.{cut_once, through}

alike : {n m q r : ℕ} {d e t u : Bool} → n ≡ m → q ≡ r → d ≡ e → t ≡ u → limited n q d t ≡ limited m r e u
alike p o q r = rw (p, o, q, r) refl

-- ---- parts together

pub both : (x y z a b : Extent) → z ≡ together x y → x ≡ a → y ≡ b → z ≡ together a b
both x y z a b e f g = rw (e, f, g) refl

-- nodes and references up to the limits add up
joined : (a b q r : ℕ) (d e t u : Bool) → together (limited a q d t) (limited b r e u) ≡ limited (a + b) (q + r) (d || e) (t && u)
joined a b q r d e t u = same (nodes_add a b) (references_add q r)
  where
    same : {n m k l : ℕ} → n ≡ m → k ≡ l → ◌≡◌ {A = Extent} (record { nodes = n; references = k; is_deep = d || e; is_typed = t && u }) (record { nodes = m; references = l; is_deep = d || e; is_typed = t && u })
    same p o = rw (p, o) refl

    nodes_add : (a b : ℕ) → min 65537 (min 65537 a + min 65537 b) ≡ min 65537 (a + b)
    nodes_add a b = omega arith

    references_add : (q r : ℕ) → min 33 (min 33 q + min 33 r) ≡ min 33 (q + r)
    references_add q r = omega arith

-- so do those of two parts
two : {x y : Extent} (a b q r : ℕ) (d e t u : Bool) → x ≡ limited a q d t → y ≡ limited b r e u → together x y ≡ limited (a + b) (q + r) (d || e) (t && u)
two a b q r d e t u f g = both _ _ _ _ _ refl f g ∙ joined a b q r d e t u

module _ {X : Type 0} (f : X → Extent) (n r : X → ℕ) (d t : X → Bool) (h : (x : X) → f x ≡ limited (n x) (r x) (d x) (t x)) where
  whole_from : (a q : ℕ) (e u : Bool) (xs : List X) → fold (λ all x. together all (f x)) (limited a q e u) xs ≡ limited (a + sum (map n xs)) (q + sum (map r xs)) (e || list_any d xs) (u && list_all t xs)
  whole_from a q e u [] = alike (omega arith) (omega arith) (sym (or-false e)) (sym (and-true u))
  whole_from a q e u (x ∷ xs) =
      ap (λ all. fold (λ all x. together all (f x)) all xs) (ap (together (limited a q e u)) (h x) ∙ joined a (n x) q (r x) e (d x) u (t x))
      ∙ whole_from (a + n x) (q + r x) (e || d x) (u && t x) xs
      ∙ alike (omega (arith, sum_by-cons (λ k. k) (n x) (map n xs))) (omega (arith, sum_by-cons (λ k. k) (r x) (map r xs))) (or_assoc e (d x) (list_any d xs)) (and_assoc u (t x) (list_all t xs))

  whole_of : (xs : List X) → whole f xs ≡ limited (sum (map n xs)) (sum (map r xs)) (list_any d xs) (list_all t xs)
  whole_of xs = whole_from 0 0 false true xs ∙ alike (omega arith) (omega arith) refl refl

-- parts without references
module _ {X : Type 0} (f : X → Extent) (n : X → ℕ) (d t : X → Bool) (h : (x : X) → f x ≡ limited (n x) 0 (d x) (t x)) where
  no_references : (xs : List X) → sum (map (λ (x : X). 0) xs) ≡ 0
  no_references [] = refl
  no_references (x ∷ xs) = omega (arith, sum_by-cons (λ k. k) 0 (map (λ (x : X). 0) xs), no_references xs)

  plain : (xs : List X) → whole f xs ≡ limited (sum (map n xs)) 0 (list_any d xs) (list_all t xs)
  plain xs = whole_of f n (λ x. 0) d t h xs ∙ alike refl (no_references xs) refl refl

-- ---- targets

never : {X : Type 0} (xs : List X) → list_any (λ x. false) xs ≡ false
never [] = refl
never (x ∷ xs) = never xs

twos : {X : Type 0} (xs : List X) → sum (map (λ x. 2) xs) ≡ 2 * length xs
twos [] = refl
twos (x ∷ xs) = rw (sum_by-cons (λ k. k) 2 (map (λ x. 2) xs), twos xs) (omega arith)

all_of_whole : (a : AllOf) → all_of_extent a ≡ limited (2 * length a.matches) 0 false (all_of_is_typed a)
unfolding all_of_is_typed
all_of_whole a = plain match_extent (λ m. 2) (λ m. false) match_is_typed (λ m. refl) a.matches ∙ rw (twos a.matches, never a.matches) refl

any_of_whole : (a : AnyOf) → any_of_extent a ≡ limited (any_of_nodes a) 0 false (any_of_is_typed a)
unfolding any_of_is_typed
any_of_whole a = plain all_of_extent (λ (b : AllOf). 2 * length b.matches) (λ b. false) all_of_is_typed all_of_whole a.all_of ∙ rw (never a.all_of) refl

pub target_whole : (t : Target) → whole any_of_extent t.any_of ≡ target_extent t
unfolding target_is_typed
target_whole t = plain any_of_extent any_of_nodes (λ a. false) any_of_is_typed any_of_whole t.any_of ∙ rw (never t.any_of) refl

target_is : (t : Target) → target_extent t ≡ limited (target_nodes t) 0 false (target_is_typed t)
target_is t = refl

-- ---- policies

deep_at : (n : ℕ) → (min 17 n == 17) ≡ nat_lt 16 n
deep_at n = grind (arith, nat_tests)

all_pass : (ids : List (List ℕ)) → list_all (λ id. true) ids ≡ true
all_pass [] = refl
all_pass (id ∷ ids) = all_pass ids

module _ (ds : List VariableDefinition) (table : Table) (is : IsTableOf ds table) where
  -- the table serves as well as the definitions
  seen : (e : Expression) → measured_with (found table) e ≡ measured_with (through ds (length ds)) e
  seen e = measured_agrees (found table) (through ds (length ds)) (λ q. true) (λ q h. ap cut (is q) ∙ cut_once (through ds (length ds) q)) e (all_pass (variables e))

  expression_whole : (is_right : Option ArgType → Bool) (e : Expression)
      → measured_extent is_right (measured_with (found table) e) ≡ limited (nodes_with (defined_nodes ds) e) 0 (is_deep (defined_depth ds) e) (is_right (type_in ds e))
  expression_whole is_right e = ap (measured_extent is_right) (seen e) ∙ deep (nodes_with (defined_nodes ds) e) (depth_with (defined_depth ds) e) (is_right (type_in ds e))
    where
      deep : (n d : ℕ) (t : Bool) → ◌≡◌ {A = Extent} (record { nodes = min 65537 n; references = 0; is_deep = min 17 d == 17; is_typed = t }) (limited n 0 (nat_lt 16 d) t)
      deep n d t = rw (deep_at d) refl

  definition_whole : (d : VariableDefinition) → definition_extent (found table) d ≡ limited (nodes_with (defined_nodes ds) d.expression) 0 (is_deep (defined_depth ds) d.expression) (definition_is_typed ds d)
  unfolding definition_is_typed
  definition_whole d = expression_whole (λ t. is_some (held t)) d.expression

  condition_whole : (c : Option Expression) → condition_extent (found table) c ≡ limited (condition_nodes (defined_nodes ds) c) 0 (is_deep_condition (defined_depth ds) c) (condition_is_typed ds c)
  unfolding condition_is_typed
  condition_whole None = refl
  condition_whole (Some e) = expression_whole is_boolean e

  assignment_whole : (a : AssignmentExpression) → assignment_extent (found table) a ≡ limited (nodes_with (defined_nodes ds) a.expression) 0 (is_deep (defined_depth ds) a.expression) (assignment_is_typed ds a)
  unfolding assignment_is_typed
  assignment_whole a = expression_whole (λ t. is_some (held t)) a.expression

  given_expression_whole : (g : GivenExpression) → given_expression_extent (found table) g ≡ limited (given_expression_nodes (defined_nodes ds) g) 0 (is_deep_given_expression (defined_depth ds) g) (given_expression_is_typed ds g)
  unfolding given_expression_is_typed
  given_expression_whole g = plain (assignment_extent (found table)) (λ a. nodes_with (defined_nodes ds) a.expression) (λ a. is_deep (defined_depth ds) a.expression) (assignment_is_typed ds) assignment_whole g.assignments

  given_list : (gs : List GivenExpression) → whole (given_expression_extent (found table)) gs ≡ limited (sum (map (given_expression_nodes (defined_nodes ds)) gs)) 0 (list_any (is_deep_given_expression (defined_depth ds)) gs) (list_all (given_expression_is_typed ds) gs)
  given_list = plain (given_expression_extent (found table)) (given_expression_nodes (defined_nodes ds)) (is_deep_given_expression (defined_depth ds)) (given_expression_is_typed ds) given_expression_whole

  given_whole : (g : GivenExpressions) → given_extent (found table) g ≡ limited (given_nodes (defined_nodes ds) g) 0 (is_deep_given (defined_depth ds) g) (given_is_typed ds g)
  unfolding given_is_typed
  given_whole g =
      let n = λ (gs : List GivenExpression). sum (map (given_expression_nodes (defined_nodes ds)) gs) in
      let d = λ (gs : List GivenExpression). list_any (is_deep_given_expression (defined_depth ds)) gs in
      let t = λ (gs : List GivenExpression). list_all (given_expression_is_typed ds) gs in
      two (n g.obligations) (n g.advice) 0 0 (d g.obligations) (d g.advice) (t g.obligations) (t g.advice) (given_list g.obligations) (given_list g.advice)

  rule_whole : (r : Rule) → rule_extent (found table) r ≡ limited (rule_nodes (defined_nodes ds) r) 0 (is_deep_rule (defined_depth ds) r) (rule_is_typed ds r)
  unfolding rule_is_typed
  rule_whole r =
      let n = condition_nodes (defined_nodes ds) r.condition in
      let d = is_deep_condition (defined_depth ds) r.condition in
      let t = target_is_typed r.target in
      let u = condition_is_typed ds r.condition in
      let own = two (target_nodes r.target) n 0 0 false d t u (target_is r.target) (condition_whole r.condition) in
      two (target_nodes r.target + n) (given_nodes (defined_nodes ds) r.given) 0 0 d (is_deep_given (defined_depth ds) r.given) (t && u) (given_is_typed ds r.given) own (given_whole r.given)

pub policy_whole : (p : Policy) (table : Table) → IsTableOf p.variables table
    → together (together (together (target_extent p.target) (whole (definition_extent (found table)) p.variables)) (whole (rule_extent (found table)) p.rules)) (given_extent (found table) p.given) ≡ policy_extent p
unfolding policy_is_typed
policy_whole p table is =
    let vs = p.variables in
    let definitions = plain (definition_extent (found table)) (λ d. nodes_with (defined_nodes vs) d.expression) (λ d. is_deep (defined_depth vs) d.expression) (definition_is_typed vs) (definition_whole vs table is) vs in
    let rules = plain (rule_extent (found table)) (rule_nodes (defined_nodes vs)) (is_deep_rule (defined_depth vs)) (rule_is_typed vs) (rule_whole vs table is) p.rules in
    let n = sum (map (λ (d : VariableDefinition). nodes_with (defined_nodes vs) d.expression) vs) in
    let m = sum (map (rule_nodes (defined_nodes vs)) p.rules) in
    let d = list_any (λ (d : VariableDefinition). is_deep (defined_depth vs) d.expression) vs in
    let e = list_any (is_deep_rule (defined_depth vs)) p.rules in
    let t = target_is_typed p.target && list_all (definition_is_typed vs) vs in
    let u = list_all (rule_is_typed vs) p.rules in
    let first = two (target_nodes p.target) n 0 0 false d (target_is_typed p.target) (list_all (definition_is_typed vs) vs) (target_is p.target) definitions in
    let second = two (target_nodes p.target + n) m 0 0 d e t u first rules in
    two (target_nodes p.target + n + m) (given_nodes (defined_nodes vs) p.given) 0 0 (d || e) (is_deep_given (defined_depth vs) p.given) (t && u) (given_is_typed vs p.given) second (given_whole vs table is p.given)

-- ---- documents

list_any-map : {X : Type 0} (f : X → Bool) (xs : List X) → list_any (λ b. b) (map f xs) ≡ list_any f xs
list_any-map f [] = refl
list_any-map f (x ∷ xs) = ap (λ b. f x || b) (list_any-map f xs)

pub extent_of_policy : (p : Policy) (extent : Option Extent) → IsExtentOfPolicy p extent → IsExtentOf (children.Policy p) extent
unfolding Rattle.ent_policy.specs.declared.document.Child.TheViews.roll-Child denote.Hole.Carrier.roll
extent_of_policy p None h = fold-roll-Child Bool Bool variables_of_child variables_of_set (Child-F.Policy p) ∙ h
extent_of_policy p (Some e) h = (
  fold-roll-Child Bool Bool variables_of_child variables_of_set (Child-F.Policy p) ∙ h.0,
  h.1 ∙ sym (alike
      (fold-roll-Child ℕ ℕ child_nodes_step set_nodes_step (Child-F.Policy p))
      (fold-roll-Child ℕ ℕ child_references_step set_references_step (Child-F.Policy p))
      (fold-roll-Child Bool Bool deep_in_child deep_in_set (Child-F.Policy p))
      (fold-roll-Child Bool Bool child_step set_step (Child-F.Policy p))),
)

pub bad_set : (set : PolicySet) → has_variable_fault (children.Set set) ≡ (list_any has_variable_fault set.children || not (list_all (is_resolved []) (given_variables set.given)))
unfolding Rattle.ent_policy.specs.declared.document.Child.TheViews.roll-Child denote.Hole.Carrier.roll
bad_set set =
    fold-roll-Child Bool Bool variables_of_child variables_of_set (Child-F.Set set) ∙ fold_out-PolicySet Bool Bool variables_of_child variables_of_set set
    ∙ ap (λ b. b || not (list_all (is_resolved []) (given_variables set.given))) (list_any-map has_variable_fault set.children)

none_more : (n : ℕ) → 0 + n + 0 ≡ n
none_more n = omega arith

empty_table : (table : Table) → table.entries ≡ [] → IsTableOf [] table
empty_table table none id = rw none refl

set_whole : (set : PolicySet) (table : Table) → IsTableOf [] table → together (together (target_extent set.target) (whole child_extent set.children)) (given_extent (found table) set.given) ≡ child_extent (children.Set set)
unfolding Rattle.ent_policy.specs.declared.document.Child.TheViews.roll-Child denote.Hole.Carrier.roll
set_whole set table is =
    let n = target_nodes set.target in
    let m = sum (map nodes set.children) in
    let q = sum (map references set.children) in
    let d = list_any has_deep set.children in
    let t = target_is_typed set.target in
    let u = list_all is_typed set.children in
    let inside = two n m 0 q false d t u (target_is set.target) (whole_of child_extent nodes references has_deep is_typed (λ c. refl) set.children) in
    two (n + m) (given_nodes (defined_nodes []) set.given) (0 + q) 0 d (is_deep_given (defined_depth []) set.given) (t && u) (given_is_typed [] set.given) inside (given_whole [] table is set.given)
    ∙ alike refl (none_more (sum (map references set.children))) refl refl
    ∙ sym (alike
    (fold-roll-Child ℕ ℕ child_nodes_step set_nodes_step (Child-F.Set set) ∙ fold_out-PolicySet ℕ ℕ child_nodes_step set_nodes_step set)
    (fold-roll-Child ℕ ℕ child_references_step set_references_step (Child-F.Set set) ∙ fold_out-PolicySet ℕ ℕ child_references_step set_references_step set)
    (fold-roll-Child Bool Bool deep_in_child deep_in_set (Child-F.Set set) ∙ fold_out-PolicySet Bool Bool deep_in_child deep_in_set set ∙ ap (λ b. b || is_deep_given (defined_depth []) set.given) (list_any-map has_deep set.children))
    (fold-roll-Child Bool Bool child_step set_step (Child-F.Set set) ∙ fold_out-PolicySet Bool Bool child_step set_step set
    ∙ ap (λ b. target_is_typed set.target && b && given_is_typed [] set.given) (list_all-map (λ b. b) is_typed set.children)))

-- what stands in a set, whose assignments have an empty table
pub set_extent : (set : PolicySet) (table : Table) (inside given e : Extent) → table.entries ≡ [] → inside ≡ whole child_extent set.children → given ≡ given_extent (found table) set.given
    → e ≡ together (together (target_extent set.target) inside) given → e ≡ child_extent (children.Set set)
set_extent set table inside given e none all rest is =
    is ∙ both _ _ _ _ _ refl (ap (together (target_extent set.target)) all) rest ∙ set_whole set table (empty_table table none)

-- a reference has nothing but itself
pub extent_of_reference : (r : Reference) → IsExtentOf (children.Reference r) (Some (limited 0 1 false true))
unfolding Rattle.ent_policy.specs.declared.document.Child.TheViews.roll-Child denote.Hole.Carrier.roll
extent_of_reference r = (
  fold-roll-Child Bool Bool variables_of_child variables_of_set (Child-F.Reference r),
  sym (alike
      (fold-roll-Child ℕ ℕ child_nodes_step set_nodes_step (Child-F.Reference r))
      (fold-roll-Child ℕ ℕ child_references_step set_references_step (Child-F.Reference r))
      (fold-roll-Child Bool Bool deep_in_child deep_in_set (Child-F.Reference r))
      (fold-roll-Child Bool Bool child_step set_step (Child-F.Reference r))),
)

-- a set is one deeper than its deepest child
pub depth_of_set : (set : PolicySet) → depth (children.Set set) ≡ 1 + greatest (map depth set.children)
unfolding Rattle.ent_policy.specs.declared.document.Child.TheViews.roll-Child denote.Hole.Carrier.roll
depth_of_set set = fold-roll-Child ℕ ℕ child_depth_step set_depth_step (Child-F.Set set) ∙ fold_out-PolicySet ℕ ℕ child_depth_step set_depth_step set
