-- Chains of references between definitions, and definitions in order.
use Rattle.std.proofs.Common.{◌≡◌, ℕ, zero, suc, ◌+◌, ◌<◌, ◌≤◌, List, [], ◌∷◌, ◌++◌, length, get_or, append_assoc, append-nil, Bool, true, false, not, ◌||◌, cond, Option, Some, None, is_some, Bor, refl, sym, ap, ◌∙◌, bytes_eq, inl, inr, arith}
use Rattle.std.proofs.Math.Bool.{or_assoc, or_comm}
use Rattle.std.proofs.lemmas.Bool.{cases_Bool, cases_lt, false_from_ne_true, false≢true, or_cases, or_left, or_parts, or_right}
use Rattle.std.proofs.lemmas.Bool.Decides.{same_from_decides}
use Rattle.std.proofs.lemmas.List.{get_or-map, length-map, map_push}
use Rattle.std.proofs.lemmas.List.Elements.{All-append, All-cons, All-contains, All-head, All-nil, All-push, All-tail, All-weaker, Contains-append_left, Contains-append_right, Contains-push}
use Rattle.std.proofs.lemmas.List.Folds.{list_all-map, list_any_at}
use Rattle.std.proofs.lemmas.List.Sorted.{All-permutation, IsPermutation-append_comm, IsPermutation-append_right, IsPermutation-map, IsPermutation-middle, IsPermutation-pop_more, IsPermutation-sym, IsPermutation-trans, length_permutation, list_any-IsPermutation}
use Rattle.std.proofs.lemmas.List.Sums.{AllPass-from_list_all, list_all-from_AllPass}
use Rattle.std.proofs.lemmas.Map.Views.{Contains-from_any}
use Rattle.std.proofs.lemmas.Slice.Eq.{bytes_eq-Decides}
use Rattle.std.specs.BTreeSet.{BTreeSet, UpdatesBy}
use Rattle.std.specs.List.{All, Contains, list_all}
use Rattle.std.specs.List.Sorted.{IsPermutation}
use Rattle.ent_policy.specs.declared.expression.VariableDefinition.{VariableDefinition}
use Rattle.ent_policy.specs.Limits.{has_double, is_among}
use Rattle.ent_policy.specs.declared.document.Policy.{Policy}
use Rattle.ent_policy.specs.proofs_only.Order.{AreDistinctIds, IsInOrder, IsOrderOf, has_id}
use Rattle.ent_policy.specs.Variables.{MoreReferencesChangeNothing, defined, definition_of, followed, has_bad_variable, ids_of, is_resolved, used, uses_only, variables}
use Rattle.ent_policy.proofs.Ids.{known_push, same_id, text_cmp}

-- ---- tests of ids

pub all_mono : (f g : List ℕ → Bool) (ids : List (List ℕ)) → ((q : List ℕ) → f q ≡ true → g q ≡ true) → list_all f ids ≡ true → list_all g ids ≡ true
all_mono f g ids h e = list_all-from_AllPass g ids (All-weaker (λ q. f q ≡ true) (λ q. g q ≡ true) h ids (AllPass-from_list_all f ids e))

pub all_among : (f : List ℕ → Bool) (ids : List (List ℕ)) (q : List ℕ) → list_all f ids ≡ true → is_among ids q ≡ true → f q ≡ true
all_among f ids q all among = All-contains (λ x. f x ≡ true) ids q (AllPass-from_list_all f ids all) (Contains-from_any (λ x y. (bytes_eq-Decides x y).0) q ids among)

pub all_agree : (f g : List ℕ → Bool) (ids : List (List ℕ)) → ((q : List ℕ) → is_among ids q ≡ true → f q ≡ g q) → list_all f ids ≡ list_all g ids
all_agree f g [] h = refl
all_agree f g (x ∷ ids) h = rw (h x (or_left (bytes_eq x x) (is_among ids x) (same_id.refl x)), all_agree f g ids (λ q m. h q (or_right (bytes_eq q x) (is_among ids q) m))) refl

-- ---- references

-- more references change nothing for a variable that leads to an end
pub more_references : {A : Type 0} → MoreReferencesChangeNothing A
more_references f none local ds zero q h = absurd (false≢true h)
more_references f none local ds (suc n) q h = at_definition (more_references f none local ds n) (definition_of ds q) h
  where
    at_definition : ((v : List ℕ) → followed uses_only false ds n v ≡ true → followed f none ds n v ≡ followed f none ds (suc n) v) → (o : Option VariableDefinition)
        → defined (uses_only (followed uses_only false ds n)) false o ≡ true → defined (f (followed f none ds n)) none o ≡ defined (f (followed f none ds (suc n))) none o
    at_definition less None h = absurd (false≢true h)
    at_definition less (Some d) h = local (followed f none ds n) (followed f none ds (suc n)) d.expression (λ v m. less v (all_among (followed uses_only false ds n) (variables d.expression) v h m))

pub followed_up : (ds : List VariableDefinition) (n : ℕ) (q : List ℕ) → followed uses_only false ds n q ≡ true → followed uses_only false ds (suc n) q ≡ true
followed_up ds n q h = sym (more_references uses_only false (λ r s e same. all_agree r s (variables e) same) ds n q h) ∙ h

followed_le : (ds : List VariableDefinition) (n m : ℕ) (q : List ℕ) → n ≤ m → followed uses_only false ds n q ≡ true → followed uses_only false ds m q ≡ true
followed_le ds n zero q le h = let e : n ≡ zero = omega arith in rw e at h
followed_le ds n (suc m) q le h =
    elim (cases_lt n (suc m)) [
      | inl lt ↦ followed_up ds m q (followed_le ds n m q (omega arith) h)
      | inr ge ↦ let e : n ≡ suc m = omega arith in rw e at h
    ]

-- ---- definitions

-- an id has a definition if it is the id of one
pub defined_ids : (ds : List VariableDefinition) (q : List ℕ) → is_some (definition_of ds q) ≡ is_among (ids_of ds) q
defined_ids [] q = refl
defined_ids (d ∷ ds) q = rw (same_id.symm q d.id) (chosen (bytes_eq d.id q) (definition_of ds q) (defined_ids ds q))
  where
    chosen : (b : Bool) (o : Option VariableDefinition) → is_some o ≡ is_among (ids_of ds) q → is_some (cond b (Some d) o) ≡ (b || is_among (ids_of ds) q)
    chosen true o e = refl
    chosen false o e = e

among_at : (ds : List VariableDefinition) (k : ℕ) (x : VariableDefinition) (q : List ℕ) → k < length ds → bytes_eq q (get_or ds k x).id ≡ true → is_among (ids_of ds) q ≡ true
among_at ds k x q lt same = list_any_at (bytes_eq q) (ids_of ds) k x.id (rw length-map lt) (rw (get_or-map (λ (y : VariableDefinition). y.id) ds k x x.id lt) same)

own_id : (ds : List VariableDefinition) → All (λ d. is_among (ids_of ds) d.id ≡ true) ds
own_id ds k x lt = among_at ds k x (get_or ds k x).id lt (same_id.refl (get_or ds k x).id)

-- a definition that is found by its id
abbrev pub IsFound : List VariableDefinition → VariableDefinition → Type 0
IsFound ds d = definition_of ds d.id ≡ Some d

-- where no id stands twice each definition is found
pub all_found : (ds : List VariableDefinition) → has_double (ids_of ds) ≡ false → All (IsFound ds) ds
all_found [] once k x lt = absurd (omega arith)
all_found (d ∷ ds) once zero x lt = rw (same_id.refl d.id) refl
all_found (d ∷ ds) once (suc k) x lt =
    let o = or_parts (is_among (ids_of ds) d.id) (has_double (ids_of ds)) once in
    let within : k < length ds = omega arith in
    let apart = false_from_ne_true (bytes_eq d.id (get_or ds k x).id) (λ same. false≢true (sym o.0 ∙ among_at ds k x d.id within same)) in
    rw apart (all_found ds o.1 k x within)

-- what holds of each definition holds of the one that is found
pub found_has : (P : VariableDefinition → Type 0) (ds : List VariableDefinition) (q : List ℕ) (d : VariableDefinition) → All P ds → definition_of ds q ≡ Some d → P d × (d.id ≡ q)
found_has P [] q d all e = absurd cc
found_has P (x ∷ ds) q d all e =
    elim (cases_Bool (bytes_eq x.id q)) [
      | inl same ↦ let is : x ≡ d = cc (rw same at e) in (rw is at (All-head P x ds all), rw is at ((bytes_eq-Decides x.id q).0 same))
      | inr other ↦ found_has P ds q d (All-tail P x ds all) (rw other at e)
    ]

-- ---- definitions in order

-- they lead to an end
in_order_followed : (ds : List VariableDefinition) (t : List ℕ → Bool) (n m : ℕ) (os : List VariableDefinition) → n + length os ≤ m → IsInOrder ds t os → ((q : List ℕ) → t q ≡ true → followed uses_only false ds n q ≡ true)
    → All (λ d. followed uses_only false ds m d.id ≡ true) os
in_order_followed ds t n m [] le io h = All-nil (λ d. followed uses_only false ds m d.id ≡ true)
in_order_followed ds t n m (d ∷ os) le io h =
    let here : followed uses_only false ds (suc n) d.id ≡ true = rw io.0 (all_mono t (followed uses_only false ds n) (variables d.expression) h io.1) in
    All-cons (λ d. followed uses_only false ds m d.id ≡ true) d os (followed_le ds (suc n) m d.id (omega arith) here)
    (in_order_followed ds (λ q. bytes_eq q d.id || t q) (suc n) m os (omega arith) io.2
    (λ q e. elim (or_cases (bytes_eq q d.id) (t q) e) [ inl same ↦ rw ((bytes_eq-Decides q d.id).0 same) here | inr before ↦ followed_up ds n q (h q before) ]))

-- one more that uses only earlier ones
in_order_push : (ds : List VariableDefinition) (t known : List ℕ → Bool) (os : List VariableDefinition) (d : VariableDefinition) → IsInOrder ds t os → IsFound ds d → uses_only known d.expression ≡ true
    → ((q : List ℕ) → known q ≡ true → (is_among (ids_of os) q || t q) ≡ true) → IsInOrder ds t (os ++ d ∷ [])
in_order_push ds t known [] d io found uses h = (found, all_mono known t (variables d.expression) h uses, tt)
in_order_push ds t known (x ∷ os) d io found uses h = (
  io.0,
  io.1,
  in_order_push ds (λ q. bytes_eq q x.id || t q) known os d io.2 found uses
      (λ q k. sym (or_assoc (is_among (ids_of os) q) (bytes_eq q x.id) (t q)) ∙ ap (λ b. b || t q) (or_comm (is_among (ids_of os) q) (bytes_eq q x.id)) ∙ h q k),
)

-- where each definition that uses only known ones is known, so is what leads to an end
closed : (known : List ℕ → Bool) (ds : List VariableDefinition) → All (λ d. uses_only known d.expression ≡ true → known d.id ≡ true) ds → (n : ℕ) (q : List ℕ) → followed uses_only false ds n q ≡ true → known q ≡ true
closed known ds all zero q h = absurd (false≢true h)
closed known ds all (suc n) q h = at_definition (closed known ds all n) (definition_of ds q) refl h
  where
    at_definition : ((v : List ℕ) → followed uses_only false ds n v ≡ true → known v ≡ true) → (o : Option VariableDefinition) → definition_of ds q ≡ o → defined (uses_only (followed uses_only false ds n)) false o ≡ true → known q ≡ true
    at_definition less None is h = absurd (false≢true h)
    at_definition less (Some d) is h =
        let here = found_has (λ d. uses_only known d.expression ≡ true → known d.id ≡ true) ds q d all is in
        rw (← here.1) (here.0 (all_mono (followed uses_only false ds n) known (variables d.expression) less h))

-- ---- the loop

-- a definition that uses a variable which isn't known
abbrev pub IsStuck : BTreeSet (Bor (List ℕ)) → VariableDefinition → Type 0
IsStuck known d = uses_only (has_id known) d.expression ≡ false

-- the definitions, some in order, the others left, of which some are known to be stuck
pub record IsParted (ds ordered pending stuck : List VariableDefinition) (known : BTreeSet (Bor (List ℕ))) : Type 0 where
  pub in_order : IsInOrder ds (λ q. false) ordered
  pub known_ids : (q : List ℕ) → has_id known q ≡ is_among (ids_of ordered) q
  pub parted : IsPermutation ds (ordered ++ (pending ++ stuck))
  pub are_stuck : All (IsStuck known) stuck

-- the last one left is stuck
pub parted_stuck : (ds ordered rest stuck : List VariableDefinition) (d : VariableDefinition) (known : BTreeSet (Bor (List ℕ))) → IsStuck known d → IsParted ds ordered (rest ++ d ∷ []) stuck known
    → IsParted ds ordered rest (stuck ++ d ∷ []) known
parted_stuck ds ordered rest stuck d known is s = record {
  in_order = s.in_order;
  known_ids = s.known_ids;
  parted = IsPermutation-trans ds (ordered ++ ((rest ++ d ∷ []) ++ stuck)) (ordered ++ (rest ++ (stuck ++ d ∷ []))) s.parted
      (IsPermutation-append_right ordered ((rest ++ d ∷ []) ++ stuck) (rest ++ (stuck ++ d ∷ [])) (rw append_assoc (IsPermutation-append_right rest (d ∷ stuck) (stuck ++ d ∷ []) (IsPermutation-append_comm (d ∷ []) stuck))));
  are_stuck = All-push (IsStuck known) stuck d s.are_stuck is;
}

module _ (ds : List VariableDefinition) (once : has_double (ids_of ds) ≡ false) where
  member_found : (xs : List VariableDefinition) (d : VariableDefinition) → IsPermutation ds xs → Contains xs d → IsFound ds d
  member_found xs d p = All-contains (IsFound ds) xs d (All-permutation (IsFound ds) ds xs p (all_found ds once))

  -- the last one left can be put in order, and those that were stuck may not be any more
  pub parted_ordered : (ordered rest stuck : List VariableDefinition) (d : VariableDefinition) (known more : BTreeSet (Bor (List ℕ))) (key : Bor (List ℕ)) → key.now ≡ d.id → UpdatesBy text_cmp (text_cmp key) known more true
      → uses_only (has_id known) d.expression ≡ true → IsParted ds ordered (rest ++ d ∷ []) stuck known → IsParted ds (ordered ++ d ∷ []) (rest ++ stuck) [] more
  parted_ordered ordered rest stuck d known more key same updates uses s =
      let moved : IsPermutation ds ((ordered ++ d ∷ []) ++ (rest ++ stuck)) =
      IsPermutation-pop_more ds ordered ((rest ++ d ∷ []) ++ stuck) (rest ++ stuck) d s.parted (rw append_assoc (IsPermutation-middle rest d stuck)) in
      record {
        in_order = in_order_push ds (λ q. false) (has_id known) ordered d s.in_order
            (member_found ((ordered ++ d ∷ []) ++ (rest ++ stuck)) d moved (Contains-append_left (ordered ++ d ∷ []) (rest ++ stuck) d (Contains-push ordered d))) uses
            (λ q h. or_left (is_among (ids_of ordered) q) false (sym (s.known_ids q) ∙ h));
        known_ids = rw (map_push (λ (x : VariableDefinition). x.id) ordered d, ← same) (known_push (ids_of ordered) known more key s.known_ids updates);
        parted = rw (append-nil (rest ++ stuck)) moved;
        are_stuck = All-nil (IsStuck more);
      }

  -- none is left
  pub parted_all : (ordered : List VariableDefinition) (known : BTreeSet (Bor (List ℕ))) → IsParted ds ordered [] [] known → IsOrderOf ds ordered
  parted_all ordered known s =
      let all : IsPermutation ds ordered = rw append-nil at s.parted in
      record {
        in_order = s.in_order;
        whole = λ id h. sym (list_any-IsPermutation (bytes_eq id) (ids_of ds) (ids_of ordered) (IsPermutation-map (λ (x : VariableDefinition). x.id) ds ordered all)) ∙ sym (defined_ids ds id) ∙ h;
        resolved = list_all-map (is_resolved ds) (λ (x : VariableDefinition). x.id) ds
            ∙ list_all-from_AllPass (λ (x : VariableDefinition). is_resolved ds x.id) ds
            (All-permutation (λ x. is_resolved ds x.id ≡ true) ordered ds (IsPermutation-sym ds ordered all)
            (in_order_followed ds (λ q. false) 0 (length ds) ordered (omega (arith, length_permutation ds ordered all)) s.in_order (λ q h. absurd (false≢true h))));
      }

  -- all that are left are stuck
  pub parted_not_all : (ordered stuck : List VariableDefinition) (known : BTreeSet (Bor (List ℕ))) → 0 < length stuck → IsParted ds ordered [] stuck known → list_all (is_resolved ds) (ids_of ds) ≡ false
  parted_not_all ordered [] known some s = absurd (omega arith)
  parted_not_all ordered (d ∷ stuck) known some s = false_from_ne_true (list_all (is_resolved ds) (ids_of ds)) (λ all.
      let found = member_found (ordered ++ d ∷ stuck) d s.parted (Contains-append_right ordered (d ∷ stuck) d (0, omega arith, refl)) in
      let here : is_resolved ds d.id ≡ true = all_among (is_resolved ds) (ids_of ds) d.id all (sym (defined_ids ds d.id) ∙ rw found refl) in
      let uses : uses_only (is_resolved ds) d.expression ≡ true = rw found at (followed_up ds (length ds) d.id here) in
      let Known : VariableDefinition → Type 0 = λ x. uses_only (has_id known) x.expression ≡ true → has_id known x.id ≡ true in
      let all_known : All Known ds = All-permutation Known (ordered ++ d ∷ stuck) ds (IsPermutation-sym ds (ordered ++ d ∷ stuck) s.parted)
      (All-append Known ordered (d ∷ stuck) (λ k x lt u. s.known_ids (get_or ordered k x).id ∙ own_id ordered k x lt)
      (All-weaker (IsStuck known) Known (λ x is u. absurd (false≢true (sym is ∙ u))) (d ∷ stuck) s.are_stuck)) in
      false≢true (sym (All-head (IsStuck known) d stuck s.are_stuck) ∙ all_mono (is_resolved ds) (has_id known) (variables d.expression) (closed (has_id known) ds all_known (length ds)) uses))

-- ---- a policy

-- where all definitions lead to an end, a policy is bad if its conditions use others
pub bad_condition : (p : Policy) (s : BTreeSet (Bor (List ℕ))) (b : Bool) → AreDistinctIds p.variables (Some s) → list_all (is_resolved p.variables) (ids_of p.variables) ≡ true → b ≡ list_all (has_id s) (used p) → has_bad_variable p ≡ not b
unfolding has_bad_variable
bad_condition p s b ids all e =
    let ds = p.variables in
    let within : (q : List ℕ) → is_resolved ds q ≡ true → is_among (ids_of ds) q ≡ true =
    closed (is_among (ids_of ds)) ds (λ k x lt u. own_id ds k x lt) (length ds) in
    let same : list_all (is_resolved ds) (used p) ≡ list_all (has_id s) (used p) =
    all_agree (is_resolved ds) (has_id s) (used p) (λ q m.
    same_from_decides (is_resolved ds q) (has_id s q) (λ h. h, λ h. h) (λ h. all_among (is_resolved ds) (ids_of ds) q all (sym (ids.1 q) ∙ h), λ h. ids.1 q ∙ within q h)) in
    rw (ids.0, all, same, e) refl
