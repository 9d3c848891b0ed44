-- What stands behind a child that fixed a decision is passed.
use Rattle.std.proofs.Common.{◌≡◌, ℕ, zero, suc, ◌+◌, ◌-◌, ◌<◌, Bool, true, false, List, [], ◌∷◌, ◌++◌, append_assoc, drop, get_or, length, sym, ap, subst, ◌∙◌, Option, arith}
use Rattle.std.proofs.lemmas.List.{drop_more}
use Rattle.std.proofs.lemmas.List.Folds.{flat_map-map}
use Rattle.std.specs.Prelude.{if◌then◌else◌}
use Rattle.std.specs.List.{flat_map}
use Rattle.ent_policy.specs.declared.document.Child.{Child}
use Rattle.ent_policy.specs.declared.document.Child.TheFolds.{fold-PolicySet, fold-roll-Child, fold_out-PolicySet, map-Child}
use Rattle.ent_policy.specs.declared.document.Child.TheOpen.{Child-F}
use Rattle.ent_policy.specs.declared.document.Child.TheVariants as children
use Rattle.ent_policy.specs.declared.document.Child.TheViews.{roll-Child}
use Rattle.ent_policy.specs.declared.document.Policy.{Policy}
use Rattle.ent_policy.specs.declared.document.PolicySet.{PolicySet}
use Rattle.ent_policy.specs.declared.document.Tree.{Tree}
use Rattle.ent_policy.specs.declared.key.DocKey.{DocKey}
use Rattle.ent_policy.specs.declared.key.Reference.{Reference}
use Rattle.ent_request.specs.Questions.{AreNumbers}
use Rattle.ent_request.specs.declared.answer.Answer.{Answer}
use Rattle.ent_walk.specs.Given.{finished}
use Rattle.ent_walk.specs.Node.{set_key}
use Rattle.ent_walk.specs.Target.{is_match, is_no_match, target_part}
use Rattle.ent_walk.specs.declared.evaluated.Truth.{Truth}
use Rattle.ent_walk.specs.declared.target.Targeted.{Targeted}
use Rattle.memo_plan.specs.CameBy.{came_by}
use Rattle.memo_plan.specs.Heard.{Came, Gist, Heard, Tests, child_came, condition, decides, element_came, gives, heard, is_true, named, node_came, refer_came, rule_came, set_came, target}
use Rattle.memo_plan.specs.Plan.{Scene, nothing_given}
use Rattle.memo_plan.specs.proofs_only.Entries.{child_tests, children_tests, found_tests, policy_tests, reference_tests, set_tests}
use Rattle.memo_tests.specs.Tested.{came_of}
use Rattle.memo_tests.specs.declared.outcome.TestOutcome.{TestOutcome}
use Rattle.memo_replay.specs.declared.over.Over.{Over}
use Rattle.memo_replay.specs.declared.state.JoinState.{JoinState}
use Rattle.memo_replay.specs.proofs_only.Heard.{gist_by}
use Rattle.memo_replay.specs.proofs_only.Stands.{Passes, Stands, questions_of}

-- ---- what comes of tests, by one level

child_rolls : (hops : ℕ) (w : Scene) (x : Child-F Child PolicySet)
    → node_came w.looks w.request (refer_came w.looks w.request hops) (roll-Child x)
    ≡ child_came w.looks w.request (refer_came w.looks w.request hops)
    (map-Child Child PolicySet Tests Tests (node_came w.looks w.request (refer_came w.looks w.request hops))
    (fold-PolicySet Tests Tests (child_came w.looks w.request (refer_came w.looks w.request hops)) (set_came w.looks w.request)) x)
child_rolls hops w x = fold-roll-Child Tests Tests (child_came w.looks w.request (refer_came w.looks w.request hops)) (set_came w.looks w.request) x

-- a policy as a child
pub policy_child : (hops : ℕ) (path : List DocKey) (policy : Policy) (w : Scene) → child_tests hops path (children.Policy policy) w ≡ policy_tests path policy w
policy_child hops path policy w =
    ap (λ c. child_tests hops path c w) (sym (children.rolls-Policy policy)) ∙ ap (λ (t : Tests). t path) (child_rolls hops w (Child-F.Policy policy))

-- a set
pub set_child : (hops : ℕ) (path : List DocKey) (set : PolicySet) (w : Scene) → child_tests hops path (children.Set set) w ≡ set_tests hops path set w
set_child hops path set w =
    ap (λ c. child_tests hops path c w) (sym (children.rolls-Set set)) ∙ ap (λ (t : Tests). t path) (child_rolls hops w (Child-F.Set set))

-- a reference
pub reference_child : (hops : ℕ) (path : List DocKey) (reference : Reference) (w : Scene)
    → child_tests hops path (children.Reference reference) w ≡ reference_tests hops path reference w
reference_child hops path reference w =
    ap (λ c. child_tests hops path c w) (sym (children.rolls-Reference reference)) ∙ ap (λ (t : Tests). t path) (child_rolls hops w (Child-F.Reference reference))

-- of a set, by those of its children
pub set_rolls : (hops : ℕ) (path : List DocKey) (set : PolicySet) (w : Scene)
    → set_tests hops path set w ≡ element_came (heard (target_part w.looks w.request set.target)) (λ a. heard (finished w.looks w.request [] set.given a))
    (children_tests hops (path ++ set_key set.id set.version ∷ []) set.children w)
set_rolls hops path set w =
    ap (λ (t : Tests). t path) (fold_out-PolicySet Tests Tests (child_came w.looks w.request (refer_came w.looks w.request hops)) (set_came w.looks w.request) set)
    ∙ ap (λ cs. element_came (heard (target_part w.looks w.request set.target)) (λ a. heard (finished w.looks w.request [] set.given a)) cs)
    (flat_map-map (λ (t : Tests). t (path ++ set_key set.id set.version ∷ [])) (node_came w.looks w.request (refer_came w.looks w.request hops)) set.children)

-- a reference is followed while one may be
pub followed : (hops : ℕ) (path : List DocKey) (reference : Reference) (w : Scene) → 0 < hops
    → reference_tests hops path reference w ≡ named (w.looks.document reference) ∷ found_tests (hops - 1) path (w.looks.document reference) w
followed zero path reference w left = absurd (omega (arith, left))
followed (suc hops) path reference w left =
    let back : suc hops - 1 ≡ hops = omega arith in
    ap (λ n. named (w.looks.document reference) ∷ found_tests n path (w.looks.document reference) w) (sym back)

-- ---- elements of lists

-- what stands at a place comes first of what is left from there on
pub first_left : {X : Type 0} (xs : List X) (i : ℕ) → i < length xs → (x : X) × (drop i xs ≡ x ∷ drop (i + 1) xs)
first_left [] i below = absurd (omega (arith, below))
first_left (x ∷ xs) i below = (get_or (x ∷ xs) i x, drop_more (x ∷ xs) i x below)

-- ---- passing

module _ {L : Type 0} (over : Over L) where
  -- behind an outcome, which tells what comes first
  abbrev pub GoesBehind : TestOutcome → JoinState → JoinState → Type 0
  GoesBehind o before after = (c : Came) (cs : List Came) → Stands over before (c ∷ cs)
      → (c ≡ came_of (questions_of over) o) × (AreNumbers (questions_of over) o.asked × Stands over after cs)

  -- behind what an element gives
  abbrev pub GoesGiven : JoinState → JoinState → Type 0
  GoesGiven before after = (own : Answer → Heard Answer) (cs : List Came) → Stands over before (gives own ∷ cs) → (own ≡ nothing_given) × Stands over after cs

  -- behind a document that is named
  abbrev pub GoesNamed : Option Tree → JoinState → JoinState → Type 0
  GoesNamed d before after = (o : Option Tree) (cs : List Came) → Stands over before (named o ∷ cs) → (d ≡ o) × Stands over after cs

  -- where a test is a target, a question of it has this answer
  abbrev pub TargetIs : (Targeted → Bool) → TestOutcome → Bool → Type 0
  TargetIs holds o b = (t : Heard Targeted) (g : Gist) → came_by o.tested g ≡ target t → b ≡ holds t.value

  -- where it is a condition
  abbrev pub ConditionIs : (Truth → Bool) → TestOutcome → Bool → Type 0
  ConditionIs holds o b = (t : Heard Truth) (g : Gist) → came_by o.tested g ≡ condition t → b ≡ holds t.value

  -- what of a rule comes behind its condition
  abbrev behind_condition : Heard Answer → Bool → List Came
  behind_condition a b = if b then decides a ∷ [] else []

  -- behind its target
  abbrev behind_target : Heard Truth → Heard Answer → Bool → List Came
  behind_target c a b = if b then condition c ∷ behind_condition a (is_true c.value) else []

  -- what of an element comes behind its target
  abbrev behind_element : (Answer → Heard Answer) → List Came → Bool → List Came
  behind_element own below b = if b then [] else gives own ∷ below

  after_target : (holds : Targeted → Bool) (f : Bool → List Came) (s u : JoinState) (o : TestOutcome) (t : Heard Targeted) (b : Bool) (cs : List Came)
      → GoesBehind o s u → TargetIs holds o b → Stands over s (target t ∷ (f (holds t.value) ++ cs)) → Stands over u (f b ++ cs)
  after_target holds f s u o t b cs behind is stands =
      let first = behind (target t) (f (holds t.value) ++ cs) stands in
      subst (λ (x : Bool). Stands over u (f x ++ cs)) (sym (is t (gist_by (questions_of over) o) (sym first.0))) first.1.1

  after_condition : (holds : Truth → Bool) (f : Bool → List Came) (s u : JoinState) (o : TestOutcome) (t : Heard Truth) (b : Bool) (cs : List Came)
      → GoesBehind o s u → ConditionIs holds o b → Stands over s (condition t ∷ (f (holds t.value) ++ cs)) → Stands over u (f b ++ cs)
  after_condition holds f s u o t b cs behind is stands =
      let first = behind (condition t) (f (holds t.value) ++ cs) stands in
      subst (λ (x : Bool). Stands over u (f x ++ cs)) (sym (is t (gist_by (questions_of over) o) (sym first.0))) first.1.1

  -- a rule whose target doesn't match
  pub rule_unmatched : (s u : JoinState) (o : TestOutcome) (t : Heard Targeted) (c : Heard Truth) (a : Heard Answer)
      → GoesBehind o s u → TargetIs is_match o false → Passes over (rule_came t c a) s u
  rule_unmatched s u o t c a behind is cs stands = after_target is_match (behind_target c a) s u o t false cs behind is stands

  -- whose condition isn't True
  pub rule_untrue : (s u v : JoinState) (o p : TestOutcome) (t : Heard Targeted) (c : Heard Truth) (a : Heard Answer)
      → GoesBehind o s u → TargetIs is_match o true → GoesBehind p u v → ConditionIs is_true p false → Passes over (rule_came t c a) s v
  rule_untrue s u v o p t c a behind is further so cs stands =
      after_condition is_true (behind_condition a) u v p c false cs further so (after_target is_match (behind_target c a) s u o t true cs behind is stands)

  -- that decides
  pub rule_true : (s u v x : JoinState) (o p q : TestOutcome) (t : Heard Targeted) (c : Heard Truth) (a : Heard Answer)
      → GoesBehind o s u → TargetIs is_match o true → GoesBehind p u v → ConditionIs is_true p true → GoesBehind q v x → Passes over (rule_came t c a) s x
  rule_true s u v x o p q t c a behind is further so last cs stands =
      (last (decides a) cs (after_condition is_true (behind_condition a) u v p c true cs further so (after_target is_match (behind_target c a) s u o t true cs behind is stands))).1.1

  -- an element whose target doesn't match
  pub element_unmatched : (s u : JoinState) (o : TestOutcome) (t : Heard Targeted) (own : Answer → Heard Answer) (below : List Came)
      → GoesBehind o s u → TargetIs is_no_match o true → Passes over (element_came t own below) s u
  element_unmatched s u o t own below behind is cs stands = after_target is_no_match (behind_element own below) s u o t true cs behind is stands

  -- whose children are passed
  pub element_passed : (s u v x : JoinState) (o : TestOutcome) (t : Heard Targeted) (own : Answer → Heard Answer) (below : List Came)
      → GoesBehind o s u → TargetIs is_no_match o false → GoesGiven u v → Passes over below v x → Passes over (element_came t own below) s x
  element_passed s u v x o t own below behind is given passes cs stands =
      passes cs (given own (below ++ cs) (after_target is_no_match (behind_element own below) s u o t false cs behind is stands)).1

  -- a document that is named
  pub named_passed : (s u v : JoinState) (d : Option Tree) (hops : ℕ) (path : List DocKey) (reference : Reference) (w : Scene) → 0 < hops
      → GoesNamed d s u → Passes over (found_tests (hops - 1) path d w) u v → Passes over (reference_tests hops path reference w) s v
  named_passed s u v d hops path reference w left goes passes cs stands =
      let first = subst (λ tests. Stands over s (tests ++ cs)) (followed hops path reference w left) stands in
      let there = goes (w.looks.document reference) (found_tests (hops - 1) path (w.looks.document reference) w ++ cs) first in
      passes cs (subst (λ o. Stands over u (found_tests (hops - 1) path o w ++ cs)) (sym there.0) there.1)

  -- no reference is followed
  pub none_passed : (s : JoinState) (hops : ℕ) (path : List DocKey) (reference : Reference) (w : Scene) → hops ≡ 0 → Passes over (reference_tests hops path reference w) s s
  none_passed s hops path reference w none cs stands = subst (λ n. Stands over s (reference_tests n path reference w ++ cs)) none stands

  -- the same under another name
  pub passes_same : (tests more : List Came) (s u : JoinState) → tests ≡ more → Passes over more s u → Passes over tests s u
  passes_same tests more s u same passes cs stands = passes cs (subst (λ ts. Stands over s (ts ++ cs)) same stands)

  -- of a list, the first
  pub one_passed : {X : Type 0} (f : X → List Came) (xs ys : List X) (x : X) (s u : JoinState) (cs : List Came) → xs ≡ x ∷ ys → Passes over (f x) s u
      → Stands over s (flat_map f xs ++ cs) → Stands over u (flat_map f ys ++ cs)
  one_passed f xs ys x s u cs at passes stands =
      passes (flat_map f ys ++ cs) (subst (Stands over s) (append_assoc (f x) (flat_map f ys) cs) (subst (λ zs. Stands over s (flat_map f zs ++ cs)) at stands))

  -- all of it are
  pub all_passed : {X : Type 0} (f : X → List Came) (xs : List X) (s : JoinState) (cs : List Came) → xs ≡ [] → Stands over s (flat_map f xs ++ cs) → Stands over s cs
  all_passed f xs s cs none stands = subst (λ zs. Stands over s (flat_map f zs ++ cs)) none stands
