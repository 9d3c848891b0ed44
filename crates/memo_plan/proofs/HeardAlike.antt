-- Answers of whose tests the same is heard.
use Rattle.std.proofs.Common.{◌≡◌, ℕ, zero, suc, List, [], ◌∷◌, ◌++◌, map, refl, sym, ap, ap₂, ◌∙◌, subst, Option, Some, None}
use Rattle.std.specs.Prelude.{if◌then◌else◌}
use Rattle.std.specs.List.{flat_map}
use Rattle.std.proofs.lemmas.List.{append_assoc}
use Rattle.ent_combine.specs.declared.outcome.PolicyAlg.{PolicyAlg}
use Rattle.ent_combine.specs.declared.outcome.PolicyAlg.TheVariants.{Shared, OnlyOne}
use Rattle.ent_policy.specs.Children.{as_child}
use Rattle.ent_policy.specs.declared.document.Child.{Child}
use Rattle.ent_policy.specs.declared.document.Child.TheFolds.{fold-PolicySet, fold-roll-Child, fold-roll-PolicySet, ind-Child, map-Child, map-PolicySet}
use Rattle.ent_policy.specs.declared.document.Child.TheOpen.{Child-F, PolicySet-F}
use Rattle.ent_policy.specs.declared.document.Child.TheViews.{roll-Child, roll-PolicySet}
use Rattle.ent_policy.specs.declared.document.Policy.{Policy}
use Rattle.ent_policy.specs.declared.document.PolicySet.{PolicySet}
use Rattle.ent_policy.specs.declared.document.Rule.{Rule}
use Rattle.ent_policy.specs.declared.document.Tree.{Tree}
use Rattle.ent_policy.specs.declared.expression.VariableDefinition.{VariableDefinition}
use Rattle.ent_policy.specs.declared.key.DocKey.{DocKey}
use Rattle.ent_policy.specs.declared.key.Reference.{Reference}
use Rattle.ent_request.specs.declared.answer.Answer.{Answer}
use Rattle.ent_request.specs.declared.question.Question.TheVariants.{Root, Ref}
use Rattle.ent_request.specs.Note.{asks}
use Rattle.ent_request.specs.Part.{Part, after_look, settled, within, without_look}
use Rattle.ent_walk.specs.declared.evaluated.Truth.{Truth}
use Rattle.ent_walk.specs.declared.evaluated.Truth.TheVariants as truth
use Rattle.ent_walk.specs.declared.target.Targeted.{Targeted}
use Rattle.ent_walk.specs.declared.target.Targeted.TheVariants as is
use Rattle.ent_walk.specs.Answer.{most_hops, root_part}
use Rattle.ent_walk.specs.Given.{effect_of, finished, given_with}
use Rattle.memo_plan.specs.Heard.{Came, EqualTestsAreHeardAlike, Heard, Tests, came_of_rule, child_came, condition, decides, element_came, found_came, gist_of, gives, heard, is_true, named, node_came, refer_came, root_came, rule_came, set_came, target}
use Rattle.ent_walk.specs.Judged.{has_failed}
use Rattle.ent_walk.specs.Node.{Node, child_step, children_part, combined, element, followed, found_node, node_with, policy_key, refer, set_key, set_step}
use Rattle.ent_walk.specs.Rule.{condition_part, decided, rule_part}
use Rattle.ent_walk.specs.Target.{is_match, is_no_match, target_part}
use Rattle.ent_walk.specs.proofs_only.Node.{set_node_with}
use Rattle.memo_plan.proofs.Gists.{behind, combined_heard, element_heard, heard_combined, heard_element, heard_only, heard_rule, heard_settled, heard_within, look_heard, only_heard, rule_heard}
use Rattle.ent_walk.proofs.Rests.{World}
use Rattle.ent_walk.proofs.Sets.{map-map}

-- ---- what stands first

abbrev target_in : Heard Targeted → Came → Heard Targeted
target_in other (target t) = t
target_in other (condition c) = other
target_in other (decides a) = other
target_in other (named d) = other
target_in other (gives g) = other

abbrev condition_in : Heard Truth → Came → Heard Truth
condition_in other (target t) = other
condition_in other (condition c) = c
condition_in other (decides a) = other
condition_in other (named d) = other
condition_in other (gives g) = other

abbrev decided_in : Heard Answer → Came → Heard Answer
decided_in other (target t) = other
decided_in other (condition c) = other
decided_in other (decides a) = a
decided_in other (named d) = other
decided_in other (gives g) = other

abbrev given_in : (Answer → Heard Answer) → Came → Answer → Heard Answer
given_in other (target t) = other
given_in other (condition c) = other
given_in other (decides a) = other
given_in other (named d) = other
given_in other (gives g) = g

abbrev named_in : Option Tree → Came → Option Tree
named_in other (target t) = other
named_in other (condition c) = other
named_in other (decides a) = other
named_in other (gives g) = other
named_in other (named d) = d

abbrev head_or : Came → List Came → Came
head_or other [] = other
head_or other (c ∷ cs) = c

abbrev tail_of : List Came → List Came
tail_of [] = []
tail_of (c ∷ cs) = cs

-- ---- parts

-- two lists of what came: what stands behind is told by both, and so are two things that are heard
abbrev Tells : (A : Type 0) → List Came → List Came → A → A → Type 0
Tells A cs ct a b = (xs ys : List Came) → ct ++ ys ≡ cs ++ xs → (ys ≡ xs) × (b ≡ a)

-- the same of others that are equal
tells-by : (A : Type 0) (cs ct : List Came) (a b c d : A) → a ≡ c → b ≡ d → Tells A cs ct c d → Tells A cs ct a b
tells-by A cs ct a b c d first second tells xs ys same =
    let h = tells xs ys same in
    (h.0, second ∙ h.1 ∙ sym first)

-- what gives nothing with an answer that decides nothing
abbrev IsPlain : (Answer → Heard Answer) → Type 0
IsPlain own = (a : Answer) → effect_of a.decision ≡ None → own a ≡ heard (without_look a)

-- a rule by what is heard of its tests
rule_tells : (path : List DocKey) (rule : Rule) (s t : Heard Targeted) (c d : Heard Truth) (own his : Answer → Heard Answer) → IsPlain own → IsPlain his
    → Tells (Heard Answer) (rule_came s c (own (decided path rule truth.True))) (rule_came t d (his (decided path rule truth.True))) (heard_rule path rule s c own) (heard_rule path rule t d his)
rule_tells path rule s t c d own his plain too xs ys same =
    by s.value refl (subst (λ (u : Heard Targeted). (if is_match u.value then condition d ∷ (if is_true d.value then decides b ∷ [] else []) else []) ++ ys ≡ (if is_match s.value then condition c ∷ (if is_true c.value then decides a ∷ [] else []) else []) ++ xs) first (ap tail_of same)) where
      a : Heard Answer
      a = own (decided path rule truth.True)

      b : Heard Answer
      b = his (decided path rule truth.True)

      first : t ≡ s
      first = ap (λ cs. target_in s (head_or (target s) cs)) same

      Rest : Targeted → Type 0
      Rest v = (if is_match v then condition d ∷ (if is_true d.value then decides b ∷ [] else []) else []) ++ ys ≡ (if is_match v then condition c ∷ (if is_true c.value then decides a ∷ [] else []) else []) ++ xs

      Later : Truth → Type 0
      Later v = (if is_true v then decides b ∷ [] else []) ++ ys ≡ (if is_true v then decides a ∷ [] else []) ++ xs

      Both : Type 0
      Both = (ys ≡ xs) × (heard_rule path rule t d his ≡ heard_rule path rule s c own)

      At : Targeted → Type 0
      At v = heard_rule path rule (record { value = v; gist = s.gist }) d his ≡ heard_rule path rule (record { value = v; gist = s.gist }) c own

      whole : (v : Targeted) → s.value ≡ v → ys ≡ xs → At v → Both
      whole v at rest alike = (rest, ap (λ (u : Heard Targeted). heard_rule path rule u d his) first ∙ subst At (sym at) alike)

      -- what it gives itself is the same, and so is what stands behind
      Given : Truth → Type 0
      Given v = (ys ≡ xs) × (his (decided path rule v) ≡ own (decided path rule v))

      given : (v : Truth) → Later v → Given v
      given truth.True all = (ap tail_of all, ap (λ cs. decided_in a (head_or (decides a) cs)) all)
      given truth.False all = (all, too (decided path rule truth.False) refl ∙ sym (plain (decided path rule truth.False) refl))
      given (truth.Indeterminate status) all = (all, too (decided path rule (truth.Indeterminate status)) refl ∙ sym (plain (decided path rule (truth.Indeterminate status)) refl))

      by : (v : Targeted) → s.value ≡ v → Rest s.value → Both
      by is.NoMatch at rest = whole is.NoMatch at (subst Rest at rest) refl
      by (is.Indeterminate status) at rest = whole (is.Indeterminate status) at (subst Rest at rest) refl
      by is.Match at rest =
          let all : condition d ∷ ((if is_true d.value then decides b ∷ [] else []) ++ ys) ≡ condition c ∷ ((if is_true c.value then decides a ∷ [] else []) ++ xs) = subst Rest at rest in
          let conditions : d ≡ c = ap (λ cs. condition_in c (head_or (condition c) cs)) all in
          let later : Later c.value = subst (λ (e : Heard Truth). (if is_true e.value then decides b ∷ [] else []) ++ ys ≡ (if is_true c.value then decides a ∷ [] else []) ++ xs) conditions (ap tail_of all) in
          let gives_same = given c.value later in
          whole is.Match at gives_same.0 (ap (λ (e : Heard Truth). heard_rule path rule (record { value = is.Match; gist = s.gist }) e his) conditions ∙ ap (λ (h : Heard Answer). behind s.gist (behind c.gist h)) gives_same.1)

-- rules, of each of which the tests tell something
rules_tell : {A : Type 0} (cs ct : Rule → List Came) (f g : Rule → A) → ((r : Rule) → Tells A (cs r) (ct r) (f r) (g r)) → (rules : List Rule) → Tells (List A) (flat_map cs rules) (flat_map ct rules) (map f rules) (map g rules)
rules_tell cs ct f g each [] xs ys same = (same, refl)
rules_tell cs ct f g each (r ∷ rules) xs ys same =
    let one = each r (flat_map cs rules ++ xs) (flat_map ct rules ++ ys) (sym (append_assoc (ct r) (flat_map ct rules) ys) ∙ same ∙ append_assoc (cs r) (flat_map cs rules) xs) in
    let later = rules_tell cs ct f g each rules xs ys one.0 in
    (later.0, ap₂ (λ a rest. a ∷ rest) one.1 later.1)

-- an element by what is heard of its target, and of what comes behind it
element_tells : (s t : Heard Targeted) (own his : Answer → Heard Answer) (cs ct : List Came) (p q : Heard Answer) → Tells (Heard Answer) cs ct p q
    → Tells (Heard Targeted × Heard Answer) (element_came s own cs) (element_came t his ct) (s, heard_element s p own) (t, heard_element t q his)
element_tells s t own his cs ct p q inner xs ys same =
    by s.value refl (subst (λ (u : Heard Targeted). (if is_no_match u.value then [] else gives his ∷ ct) ++ ys ≡ (if is_no_match s.value then [] else gives own ∷ cs) ++ xs) first (ap tail_of same)) where
      first : t ≡ s
      first = ap (λ cs. target_in s (head_or (target s) cs)) same

      Rest : Targeted → Type 0
      Rest v = (if is_no_match v then [] else gives his ∷ ct) ++ ys ≡ (if is_no_match v then [] else gives own ∷ cs) ++ xs

      Both : Type 0
      Both = (ys ≡ xs) × (◌≡◌ {A = Heard Targeted × Heard Answer} (t, heard_element t q his) (s, heard_element s p own))

      At : Targeted → Type 0
      At v = heard_element (record { value = v; gist = s.gist }) q his ≡ heard_element (record { value = v; gist = s.gist }) p own

      whole : (v : Targeted) → s.value ≡ v → ys ≡ xs → At v → Both
      whole v at rest same =
          (rest, ap (λ (u : Heard Targeted). (u, heard_element u q his)) first ∙ ap (λ (h : Heard Answer). (s, h)) (subst At (sym at) same))

      by : (v : Targeted) → s.value ≡ v → Rest s.value → Both
      by is.NoMatch at rest = whole is.NoMatch at (subst Rest at rest) refl
      by is.Match at rest =
          let all : gives his ∷ (ct ++ ys) ≡ gives own ∷ (cs ++ xs) = subst Rest at rest in
          let given : his ≡ own = ap (λ ds. given_in own (head_or (gives own) ds)) all in
          let later = inner xs ys (ap tail_of all) in
          whole is.Match at later.0 (ap₂ (heard_element (record { value = is.Match; gist = s.gist })) later.1 given)
      by (is.Indeterminate status) at rest =
          let all : gives his ∷ (ct ++ ys) ≡ gives own ∷ (cs ++ xs) = subst Rest at rest in
          let given : his ≡ own = ap (λ ds. given_in own (head_or (gives own) ds)) all in
          let later = inner xs ys (ap tail_of all) in
          whole (is.Indeterminate status) at later.0 (ap₂ (heard_element (record { value = is.Indeterminate status; gist = s.gist })) later.1 given)

-- ---- nodes

-- what is heard of a node: of its target alone, and as a whole
abbrev heard_node : List DocKey → Node → Heard Targeted × Heard Answer
heard_node path n = (heard n.target, heard (n.answer path))

-- what is heard of what a rule gives itself
abbrev own_of : World → List VariableDefinition → Rule → Answer → Heard Answer
own_of u definitions r a = heard (finished u.looks u.request definitions r.given a)

own_plain : (u : World) (definitions : List VariableDefinition) (r : Rule) → IsPlain (own_of u definitions r)
own_plain u definitions r a none = ap (λ e. heard (given_with u.looks u.request definitions r.given e a)) none

-- a rule by what is heard of its tests
abbrev by_tests : World → List VariableDefinition → List DocKey → Rule → Heard Answer
by_tests u definitions here r =
    heard_rule here r (heard (target_part u.looks u.request r.target)) (heard (condition_part u.looks u.request definitions r.condition)) (own_of u definitions r)

tested : (u : World) (definitions : List VariableDefinition) (here : List DocKey) (r : Rule) → heard (rule_part u.looks u.request definitions here r) ≡ by_tests u definitions here r
tested u definitions here r =
    rule_heard r.id (target_part u.looks u.request r.target) (condition_part u.looks u.request definitions r.condition) (finished u.looks u.request definitions r.given) here r

module _ (s t : World) where
  -- a node is told by what is heard of its tests
  abbrev Told : (World → Node) → (World → Tests) → Type 0
  Told node tests = (path : List DocKey) → Tells (Heard Targeted × Heard Answer) (tests s path) (tests t path) (heard_node path (node s)) (heard_node path (node t))

  told-by : (p q : World → Node) (c d : World → Tests) → ((u : World) → p u ≡ q u) → ((u : World) → c u ≡ d u) → Told q d → Told p c
  told-by p q c d nodes tests told path xs ys same =
      let h = told path xs ys (ap (λ f. f path ++ ys) (sym (tests t)) ∙ same ∙ ap (λ f. f path ++ xs) (tests s)) in
      (h.0, ap (heard_node path) (nodes t) ∙ h.1 ∙ ap (heard_node path) (sym (nodes s)))

  -- the rules of a policy
  policy_rules_tell : (policy : Policy) (here : List DocKey)
      → Tells (Heard Answer) (flat_map (came_of_rule s.looks s.request policy.variables here) policy.rules) (flat_map (came_of_rule t.looks t.request policy.variables here) policy.rules)
      (heard (combined here policy.algorithm (map (rule_part s.looks s.request policy.variables here) policy.rules)))
      (heard (combined here policy.algorithm (map (rule_part t.looks t.request policy.variables here) policy.rules)))
  policy_rules_tell policy here xs ys same =
      let part : World → Rule → Part Answer = λ u. rule_part u.looks u.request policy.variables here in
      let is_combined = λ (u : World). combined_heard here policy.algorithm (map (part u) policy.rules) ∙ ap (heard_combined here policy.algorithm) (map-map (part u) heard policy.rules) in
      let h = rules_tell (came_of_rule s.looks s.request policy.variables here) (came_of_rule t.looks t.request policy.variables here) (λ r. heard (part s r)) (λ r. heard (part t r)) one policy.rules xs ys same in
      (h.0, is_combined t ∙ ap (heard_combined here policy.algorithm) h.1 ∙ sym (is_combined s)) where
        one : (r : Rule) → Tells (Heard Answer) (came_of_rule s.looks s.request policy.variables here r) (came_of_rule t.looks t.request policy.variables here r)
            (heard (rule_part s.looks s.request policy.variables here r)) (heard (rule_part t.looks t.request policy.variables here r))
        one r =
            tells-by (Heard Answer) (came_of_rule s.looks s.request policy.variables here r) (came_of_rule t.looks t.request policy.variables here r)
            (heard (rule_part s.looks s.request policy.variables here r)) (heard (rule_part t.looks t.request policy.variables here r))
            (by_tests s policy.variables here r) (by_tests t policy.variables here r) (tested s policy.variables here r) (tested t policy.variables here r)
            (rule_tells here r (heard (target_part s.looks s.request r.target)) (heard (target_part t.looks t.request r.target))
            (heard (condition_part s.looks s.request policy.variables r.condition)) (heard (condition_part t.looks t.request policy.variables r.condition))
            (own_of s policy.variables r) (own_of t policy.variables r) (own_plain s policy.variables r) (own_plain t policy.variables r))

  -- an element with a key, where its children are told
  element_told : (key : DocKey) (test : World → Part Targeted) (own : World → Answer → Part Answer) (children : World → Part Answer) (below : World → List Came)
      → Tells (Heard Answer) (below s) (below t) (heard (children s)) (heard (children t))
      → Tells (Heard Targeted × Heard Answer) (element_came (heard (test s)) (λ a. heard (own s a)) (below s)) (element_came (heard (test t)) (λ a. heard (own t a)) (below t))
      (heard (within key (test s)), heard (element key (test s) (children s) (own s))) (heard (within key (test t)), heard (element key (test t) (children t) (own t)))
  element_told key test own children below inner =
      tells-by (Heard Targeted × Heard Answer) (element_came (heard (test s)) (λ a. heard (own s a)) (below s)) (element_came (heard (test t)) (λ a. heard (own t a)) (below t))
      (heard (within key (test s)), heard (element key (test s) (children s) (own s))) (heard (within key (test t)), heard (element key (test t) (children t) (own t)))
      (heard (test s), heard_element (heard (test s)) (heard (children s)) (λ a. heard (own s a))) (heard (test t), heard_element (heard (test t)) (heard (children t)) (λ a. heard (own t a)))
      (is_heard s) (is_heard t)
      (element_tells (heard (test s)) (heard (test t)) (λ a. heard (own s a)) (λ a. heard (own t a)) (below s) (below t) (heard (children s)) (heard (children t)) inner) where
        is_heard : (u : World) → ◌≡◌ {A = Heard Targeted × Heard Answer} (heard (within key (test u)), heard (element key (test u) (children u) (own u)))
            (heard (test u), heard_element (heard (test u)) (heard (children u)) (λ a. heard (own u a)))
        is_heard u = ap₂ (λ (h : Heard Targeted) (a : Heard Answer). (h, a)) (heard_within key (test u)) (element_heard key (test u) (children u) (own u))

  policy_told : (refers : World → Reference → Node) (tests : World → Reference → Tests) (policy : Policy)
      → Told (λ u. child_step u.looks u.request (refers u) (Child-F.Policy policy)) (λ u. child_came u.looks u.request (tests u) (Child-F.Policy policy))
  policy_told refers tests policy path =
      let here = path ++ policy_key policy ∷ [] in
      element_told (policy_key policy) (λ u. target_part u.looks u.request policy.target) (λ u. finished u.looks u.request policy.variables policy.given)
      (λ u. combined here policy.algorithm (map (rule_part u.looks u.request policy.variables here) policy.rules))
      (λ u. flat_map (came_of_rule u.looks u.request policy.variables here) policy.rules) (policy_rules_tell policy here)

  -- where each reference is told
  module _ (refers : World → Reference → Node) (tests : World → Reference → Tests) (each : (r : Reference) → Told (λ u. refers u r) (λ u. tests u r)) where
    abbrev node : World → Child → Node
    node u = node_with u.looks u.request (refers u)

    abbrev set_node : World → PolicySet → Node
    set_node u = set_node_with u.looks u.request (refers u)

    abbrev node_tests : World → Child → Tests
    node_tests u = node_came u.looks u.request (tests u)

    abbrev set_tests : World → PolicySet → Tests
    set_tests u = fold-PolicySet Tests Tests (child_came u.looks u.request (tests u)) (set_came u.looks u.request)

    abbrev ChildTold : Type 0
    ChildTold = (c : Child) × Told (λ u. node u c) (λ u. node_tests u c)

    abbrev SetTold : Type 0
    SetTold = (p : PolicySet) × Told (λ u. set_node u p) (λ u. set_tests u p)

    node_rolls : (x : Child-F Child PolicySet) (u : World) → node u (roll-Child x) ≡ child_step u.looks u.request (refers u) (map-Child Child PolicySet Node Node (node u) (set_node u) x)
    node_rolls x u = fold-roll-Child Node Node (child_step u.looks u.request (refers u)) (set_step u.looks u.request) x

    set_rolls : (x : PolicySet-F Child PolicySet) (u : World) → set_node u (roll-PolicySet x) ≡ set_step u.looks u.request (map-PolicySet Child PolicySet Node Node (node u) (set_node u) x)
    set_rolls x u = fold-roll-PolicySet Node Node (child_step u.looks u.request (refers u)) (set_step u.looks u.request) x

    tests_roll : (x : Child-F Child PolicySet) (u : World) → node_tests u (roll-Child x) ≡ child_came u.looks u.request (tests u) (map-Child Child PolicySet Tests Tests (node_tests u) (set_tests u) x)
    tests_roll x u = fold-roll-Child Tests Tests (child_came u.looks u.request (tests u)) (set_came u.looks u.request) x

    set_tests_roll : (x : PolicySet-F Child PolicySet) (u : World) → set_tests u (roll-PolicySet x) ≡ set_came u.looks u.request (map-PolicySet Child PolicySet Tests Tests (node_tests u) (set_tests u) x)
    set_tests_roll x u = fold-roll-PolicySet Tests Tests (child_came u.looks u.request (tests u)) (set_came u.looks u.request) x

    node_layer : (y : Child-F ChildTold SetTold) → Told (λ u. node u (roll-Child (map-Child ChildTold SetTold Child PolicySet (λ e. e.0) (λ e. e.0) y)))
        (λ u. node_tests u (roll-Child (map-Child ChildTold SetTold Child PolicySet (λ e. e.0) (λ e. e.0) y)))
    node_layer (Child-F.Policy policy) = told-by _ _ _ _ (node_rolls (Child-F.Policy policy)) (tests_roll (Child-F.Policy policy)) (policy_told refers tests policy)
    node_layer (Child-F.Set set) = told-by _ _ _ _ (node_rolls (Child-F.Set set.0)) (tests_roll (Child-F.Set set.0)) set.1
    node_layer (Child-F.Reference reference) = told-by _ _ _ _ (node_rolls (Child-F.Reference reference)) (tests_roll (Child-F.Reference reference)) (each reference)

    -- what is heard of the targets of children, and of what they come to
    abbrev parts : List DocKey → List Node → List (Heard Targeted) × List (Heard Answer)
    parts here nodes = (map (λ (n : Node). heard n.target) nodes, map (λ (n : Node). heard (n.answer here)) nodes)

    abbrev by_parts : PolicyAlg → List DocKey → List (Heard Targeted) × List (Heard Answer) → Heard Answer
    by_parts (Shared algorithm) here ps = heard_combined here algorithm ps.1
    by_parts OnlyOne here ps = heard_only ps.0 ps.1

    settled_all : (here : List DocKey) (nodes : List Node)
        → map heard (map (λ (n : Node). settled has_failed (n.answer here)) nodes) ≡ map (λ (n : Node). heard (n.answer here)) nodes
    settled_all here [] = refl
    settled_all here (n ∷ nodes) =
        ap₂ (λ (h : Heard Answer) hs. h ∷ hs) (heard_settled has_failed (n.answer here)) (settled_all here nodes)

    children_by : (algorithm : PolicyAlg) (here : List DocKey) (nodes : List Node) → heard (children_part algorithm nodes here) ≡ by_parts algorithm here (parts here nodes)
    children_by (Shared algorithm) here nodes =
        combined_heard here algorithm (map (λ (n : Node). settled has_failed (n.answer here)) nodes)
        ∙ ap (heard_combined here algorithm) (settled_all here nodes)
    children_by OnlyOne here nodes =
        only_heard (map (λ (n : Node). n.target) nodes) (map (λ (n : Node). n.answer here) nodes)
        ∙ ap₂ heard_only (map-map (λ (n : Node). n.target) heard nodes) (map-map (λ (n : Node). n.answer here) heard nodes)

    abbrev below : World → List DocKey → List ChildTold → List Came
    below u here ns = flat_map (λ (c : Tests). c here) (map (node_tests u) (map (λ e. e.0) ns))

    children_tell : (here : List DocKey) (ns : List ChildTold) → Tells (List (Heard Targeted) × List (Heard Answer)) (below s here ns) (below t here ns) (parts here (map (node s) (map (λ e. e.0) ns))) (parts here (map (node t) (map (λ e. e.0) ns)))
    children_tell here [] xs ys same = (same, refl)
    children_tell here (n ∷ ns) xs ys same =
        let one = n.1 here (below s here ns ++ xs) (below t here ns ++ ys)
        (sym (append_assoc (node_tests t n.0 here) (below t here ns) ys) ∙ same ∙ append_assoc (node_tests s n.0 here) (below s here ns) xs) in
        let later = children_tell here ns xs ys one.0 in
        (later.0, ap₂ (λ (p : Heard Targeted × Heard Answer) (ps : List (Heard Targeted) × List (Heard Answer)). (p.0 ∷ ps.0, p.1 ∷ ps.1)) one.1 later.1)

    set_layer : (y : PolicySet-F ChildTold SetTold) → Told (λ u. set_node u (roll-PolicySet (map-PolicySet ChildTold SetTold Child PolicySet (λ e. e.0) (λ e. e.0) y)))
        (λ u. set_tests u (roll-PolicySet (map-PolicySet ChildTold SetTold Child PolicySet (λ e. e.0) (λ e. e.0) y)))
    set_layer y =
        told-by _ _ _ _ (set_rolls (map-PolicySet ChildTold SetTold Child PolicySet (λ e. e.0) (λ e. e.0) y)) (set_tests_roll (map-PolicySet ChildTold SetTold Child PolicySet (λ e. e.0) (λ e. e.0) y)) (λ path.
        let here = path ++ set_key y.id y.version ∷ [] in
        let nodes : World → List Node = λ u. map (node u) (map (λ e. e.0) y.children) in
        element_told (set_key y.id y.version) (λ u. target_part u.looks u.request y.target) (λ u. finished u.looks u.request [] y.given) (λ u. children_part y.algorithm (nodes u) here) (λ u. below u here y.children)
        (λ xs ys same.
        let h = children_tell here y.children xs ys same in
        (h.0, children_by y.algorithm here (nodes t) ∙ ap (by_parts y.algorithm here) h.1 ∙ sym (children_by y.algorithm here (nodes s)))))

    node_told : (c : Child) → Told (λ u. node u c) (λ u. node_tests u c)
    node_told =
        ind-Child (λ c. Told (λ u. node u c) (λ u. node_tests u c)) (λ p. Told (λ u. set_node u p) (λ u. set_tests u p))
        (λ x y is. subst (λ z. Told (λ u. node u (roll-Child z)) (λ u. node_tests u (roll-Child z))) is (node_layer y))
        (λ x y is. subst (λ z. Told (λ u. set_node u (roll-PolicySet z)) (λ u. set_tests u (roll-PolicySet z))) is (set_layer y))

    found_told : (r : Reference) (o : Option Tree) → Told (λ u. found_node r (node u) o) (λ u. found_came (node_tests u) o)
    found_told r None path xs ys same = (same, refl)
    found_told r (Some document) path xs ys same = node_told (as_child document) path xs ys same

    -- what is heard behind the question of a reference
    looked : (r : Reference) (path : List DocKey) (n : Node) → ◌≡◌ {A = Heard Targeted × Heard Answer} (heard (after_look (Ref r) n.target), heard (after_look (Ref r) (n.answer path)))
        (behind (gist_of (asks (Ref r) ∷ [])) (heard n.target), behind (gist_of (asks (Ref r) ∷ [])) (heard (n.answer path)))
    looked r path n = ap₂ (λ (h : Heard Targeted) (a : Heard Answer). (h, a)) (look_heard (Ref r) n.target) (look_heard (Ref r) (n.answer path))

    followed_told : (r : Reference) → Told (λ u. followed u.looks u.request (refers u) r) (λ u path. named (u.looks.document r) ∷ found_came (node_tests u) (u.looks.document r) path)
    followed_told r path xs ys same =
        let document : t.looks.document r ≡ s.looks.document r = ap (λ cs. named_in (s.looks.document r) (head_or (named (s.looks.document r)) cs)) same in
        let h = found_told r (s.looks.document r) path xs ys (subst (λ o. found_came (node_tests t) o path ++ ys ≡ found_came (node_tests s) (s.looks.document r) path ++ xs) document (ap tail_of same)) in (
          h.0,
          ap (λ o. (heard (after_look (Ref r) (found_node r (node t) o).target), heard (after_look (Ref r) ((found_node r (node t) o).answer path)))) document
              ∙ looked r path (found_node r (node t) (s.looks.document r))
              ∙ ap (λ (p : Heard Targeted × Heard Answer). (behind (gist_of (asks (Ref r) ∷ [])) p.0, behind (gist_of (asks (Ref r) ∷ [])) p.1)) h.1
              ∙ sym (looked r path (found_node r (node s) (s.looks.document r))),
        )

  refer_told : (hops : ℕ) (r : Reference) → Told (λ u. refer u.looks u.request hops r) (λ u. refer_came u.looks u.request hops r)
  refer_told zero r path xs ys same = (same, refl)
  refer_told (suc hops) r path xs ys same = followed_told (λ u. refer u.looks u.request hops) (λ u. refer_came u.looks u.request hops) (refer_told hops) r path xs ys same

  root_told : (root : Option Reference) → root_came t.looks t.request root ≡ root_came s.looks s.request root → heard (root_part t.looks t.request root) ≡ heard (root_part s.looks s.request root)
  root_told None same = refl
  root_told (Some r) same =
      let part : World → Part Answer = λ u. (followed u.looks u.request (refer u.looks u.request most_hops) r).answer [] in
      heard_settled has_failed (part t)
      ∙ ap (λ (p : Heard Targeted × Heard Answer). p.1)
      (followed_told (λ u. refer u.looks u.request most_hops) (λ u. refer_came u.looks u.request most_hops) (refer_told most_hops) r [] [] [] (ap (λ cs. cs ++ []) same)).1
      ∙ sym (heard_settled has_failed (part s))

-- where the same is heard of the tests, so it is of the answer
pub heard_alike : EqualTestsAreHeardAlike
heard_alike s t q r root same =
    let here : World = record { looks = s; request = q } in
    let there : World = record { looks = t; request = r } in
    look_heard Root (root_part t r t.root)
    ∙ ap (behind (gist_of (asks Root ∷ []))) (ap (λ o. heard (root_part t r o)) root ∙ root_told here there s.root (ap (root_came t r) (sym root) ∙ same))
    ∙ sym (look_heard Root (root_part s q s.root))
