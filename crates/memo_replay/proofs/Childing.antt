-- Children of sets and references, joined of their tests.
use Rattle.std.proofs.Common.{◌≡◌, ℕ, zero, suc, ◌-◌, ◌<◌, List, [], ◌∷◌, ◌++◌, refl, sym, ap, subst, ◌∙◌, Option, Some, None, arith}
use Rattle.std.proofs.lemmas.Result.{IfOk-weaker}
use Rattle.std.specs.Prelude.{IfOk, Result}
use Rattle.ent_combine.specs.declared.combiner.Progress.{Progress}
use Rattle.ent_combine.specs.declared.outcome.PolicyAlg.TheVariants.{Shared}
use Rattle.ent_combine.specs.declared.outcome.RuleAlg.{RuleAlg}
use Rattle.ent_policy.specs.Children.{as_child}
use Rattle.ent_policy.specs.declared.document.Child.{Child}
use Rattle.ent_policy.specs.declared.document.Child.TheFolds.{fold-roll-Child}
use Rattle.ent_policy.specs.declared.document.Child.TheOpen.{Child-F}
use Rattle.ent_policy.specs.declared.document.Child.TheVariants as children
use Rattle.ent_policy.specs.declared.document.Policy.{Policy}
use Rattle.ent_policy.specs.declared.document.PolicySet.{PolicySet}
use Rattle.ent_policy.specs.declared.document.Tree.{Tree}
use Rattle.ent_policy.specs.declared.key.DocKey.{DocKey}
use Rattle.ent_policy.specs.declared.key.Reference.{Reference}
use Rattle.ent_request.specs.Looks.{Looks}
use Rattle.ent_request.specs.Note.{asks}
use Rattle.ent_request.specs.Part.{Part, settled}
use Rattle.ent_request.specs.Plain.{nothing, unresolved}
use Rattle.ent_request.specs.declared.answer.Answer.{Answer}
use Rattle.ent_request.specs.declared.answer.Status.{Status}
use Rattle.ent_request.specs.declared.question.Question.TheVariants.{Ref}
use Rattle.ent_walk.specs.Given.{finished}
use Rattle.ent_walk.specs.Judged.{has_failed, under_target}
use Rattle.ent_walk.specs.Node.{Node, child_step, element, found_node, policy_part, refer, set_key, set_step}
use Rattle.ent_walk.specs.Target.{target_part}
use Rattle.ent_walk.specs.declared.gather.Gathering.{Gathering}
use Rattle.ent_walk.specs.declared.target.Targeted.{Targeted}
use Rattle.ent_walk.specs.declared.target.Targeted.TheVariants as is
use Rattle.ent_walk.specs.proofs_only.Gathered.{Gathers, Tells}
use Rattle.ent_walk.specs.proofs_only.Hops.{child_part, children_combined, node_of, reference_part, set_children, set_part}
use Rattle.ent_walk.specs.proofs_only.Judged.{or_nothing}
use Rattle.ent_walk.proofs.Sets.{set_out, shared-part}
use Rattle.memo_plan.specs.Heard.{Came, Gist, Heard, element_came, gist_of, heard, named}
use Rattle.memo_plan.proofs.Gists.{gist_append, heard_settled}
use Rattle.memo_plan.specs.Plan.{Scene}
use Rattle.memo_plan.specs.proofs_only.Entries.{child_tests, children_tests, found_tests, policy_tests, reference_tests, set_tests}
use Rattle.memo_replay.specs.declared.over.Over.{Over}
use Rattle.memo_replay.specs.declared.state.JoinState.{JoinState}
use Rattle.memo_replay.specs.proofs_only.Heard.{HearsMore, HearsNothing, StaysThere, joined}
use Rattle.memo_replay.specs.proofs_only.Heard as heard_words
use Rattle.memo_replay.specs.proofs_only.Stands.{Goes, Joins, Stands, TakesPart, questions_of, scene_in}
use Rattle.memo_replay.proofs.Elements.{GivesNothing, Targets, element_match, element_none, element_under}
use Rattle.memo_replay.proofs.Hearing.{goes_hearing, goes_same, goes_then}
use Rattle.memo_replay.proofs.Passed.{policy_child, reference_child, set_child, set_rolls}

-- ---- one level

module _ (w : Scene) (hops : ℕ) (path : List DocKey) where
  -- a policy as a child
  policy_is : (policy : Policy) → policy_part w.looks w.request path policy ≡ child_part w.looks w.request hops path (children.Policy policy)
  policy_is policy =
      sym (ap (λ c. child_part w.looks w.request hops path c) (sym (children.rolls-Policy policy))
      ∙ ap (λ (n : Node). n.answer path) (fold-roll-Child Node Node (child_step w.looks w.request (refer w.looks w.request hops)) (set_step w.looks w.request) (Child-F.Policy policy)))

  -- a set as a child
  set_is : (set : PolicySet) → set_part w.looks w.request hops path set ≡ child_part w.looks w.request hops path (children.Set set)
  set_is set =
      sym (ap (λ c. child_part w.looks w.request hops path c) (sym (children.rolls-Set set))
      ∙ ap (λ (n : Node). n.answer path) (fold-roll-Child Node Node (child_step w.looks w.request (refer w.looks w.request hops)) (set_step w.looks w.request) (Child-F.Set set)))

  -- a reference as a child
  reference_is : (reference : Reference) → reference_part w.looks w.request hops path reference ≡ child_part w.looks w.request hops path (children.Reference reference)
  reference_is reference =
      sym (ap (λ c. child_part w.looks w.request hops path c) (sym (children.rolls-Reference reference))
      ∙ ap (λ (n : Node). n.answer path) (fold-roll-Child Node Node (child_step w.looks w.request (refer w.looks w.request hops)) (set_step w.looks w.request) (Child-F.Reference reference)))

module _ {L : Type 0} (over : Over L) where
  -- the same tests and the same part
  joins_same : (tests others : List Came) (part other : Part Answer) (s t : JoinState) (a : Answer) → others ≡ tests → other ≡ part
      → Joins over others other s t a → Joins over tests part s t a
  joins_same tests others part other s t a same alike joins =
      subst (λ p. Joins over tests p s t a) alike (subst (λ cs. Joins over cs other s t a) same joins)

  -- ---- children, one behind the other

  -- a child that is gathered, where what fails in it is passed over unless it is Indeterminate
  pub takes_child : (tests : List Came) (part : Part Answer) (s t : JoinState) (g h : Gathering) (a : Answer) (progress : Progress)
      → Joins over tests part s t a → Gathers g h a → Tells g a progress → TakesPart over tests (heard (settled has_failed part)) s t g h progress
  takes_child tests part s t g h a progress joins gathers tells cs stands =
      let by = joins cs stands in (
        subst (Gathers g h) by.0 gathers,
        (
          subst (λ v. Tells g v progress) by.0 tells,
          goes_same over s t (gist_of part.notes) (gist_of (settled has_failed part).notes) cs
              (sym (ap (λ (x : Heard Answer). x.gist) (heard_settled has_failed part))) by.1,
        ),
      )

  -- ---- sets

  module _ (w : Scene) (hops : ℕ) (path : List DocKey) (set : PolicySet) where
    abbrev key : DocKey
    key = set_key set.id set.version

    abbrev test : Part Targeted
    test = target_part w.looks w.request set.target

    abbrev in_it : Part Answer
    in_it = set_children w.looks w.request hops path set

    abbrev own : Answer → Part Answer
    own = finished w.looks w.request [] set.given

    abbrev below : List Came
    below = children_tests hops (path ++ key ∷ []) set.children w

    abbrev Set_joins : JoinState → JoinState → Answer → Type 0
    Set_joins s t a = Joins over (set_tests hops path set w) (set_part w.looks w.request hops path set) s t a

    as_element : (s t : JoinState) (a : Answer) → Joins over (element_came (heard test) (λ x. heard (own x)) below) (element key test in_it own) s t a → Set_joins s t a
    as_element s t a joins =
        joins_same (set_tests hops path set w) (element_came (heard test) (λ x. heard (own x)) below) (set_part w.looks w.request hops path set) (element key test in_it own) s t a
        (sym (set_rolls hops path set w)) (sym (set_out w.looks w.request hops path set)) joins

    pub set_joins_none : (s u : JoinState) → Targets over s u is.NoMatch → Set_joins s u nothing
    set_joins_none s u targets = as_element s u nothing (element_none over key test in_it own below s u targets)

    pub set_joins_match : (s u v t : JoinState) (a : Answer) → Targets over s u is.Match → GivesNothing over u v → HearsNothing u v
        → Joins over below in_it v t a → Set_joins s t a
    set_joins_match s u v t a targets given silent joins = as_element s t a (element_match over key test in_it own below s u v t a targets given silent joins)

    pub set_joins_under : (status : Status) (s u v t : JoinState) (a b : Answer) → Targets over s u (is.Indeterminate status) → GivesNothing over u v → HearsNothing u v
        → Joins over below in_it v t a → b ≡ under_target status a.decision → Set_joins s t b
    set_joins_under status s u v t a b targets given silent joins under =
        as_element s t b (element_under over key test in_it own below status s u v t a b targets given silent joins under)

  -- ---- references

  -- this was asked and nothing else, and a document is what comes of it
  abbrev pub Names : Reference → JoinState → JoinState → Option Tree → Type 0
  Names reference s u found = (o : Option Tree) (cs : List Came) → Stands over s (named o ∷ cs)
      → (found ≡ o) × Goes over s u (gist_of (asks (Ref reference) ∷ [])) cs

  module _ (w : Scene) (path : List DocKey) (reference : Reference) where
    abbrev Follows : ℕ → JoinState → JoinState → Answer → Type 0
    Follows hops s t a = Joins over (reference_tests hops path reference w) (reference_part w.looks w.request hops path reference) s t a

    -- none may be followed
    pub reference_too_far : (hops : ℕ) (s t : JoinState) → hops ≡ 0 → HearsMore (questions_of over) heard_words.failing s t → StaysThere s t → Follows hops s t unresolved
    reference_too_far hops s t none fails there =
        subst (λ n. Follows n s t unresolved) (sym none) (λ cs stands. (refl, goes_hearing over s t heard_words.failing cs fails there stands))

    -- one that is followed, where so many may be in its document
    module _ (hops : ℕ) where
      abbrev tests_at : Option Tree → List Came
      tests_at o = found_tests hops path o w

      abbrev part_at : Option Tree → Part Answer
      part_at o = (found_node reference (node_of w.looks w.request hops) o).answer path

      reference_followed : (s u t : JoinState) (found : Option Tree) (a : Answer) → Names reference s u found → Joins over (tests_at found) (part_at found) u t a → Follows (suc hops) s t a
      reference_followed s u t found a names joins cs stands =
          let asked : Gist = gist_of (asks (Ref reference) ∷ []) in
          let came = names (w.looks.document reference) (tests_at (w.looks.document reference) ++ cs) stands in
          let goes : Goes over s u asked (tests_at found ++ cs) = subst (λ o. Goes over s u asked (tests_at o ++ cs)) (sym came.0) came.1 in
          let inner = joins cs goes.1 in (
            inner.0 ∙ ap (λ o. (part_at o).value) came.0,
            goes_same over s t (joined asked (gist_of (part_at found).notes)) (gist_of (asks (Ref reference) ∷ (part_at (w.looks.document reference)).notes)) cs
                (sym (gist_append (asks (Ref reference) ∷ []) (part_at found).notes) ∙ ap (λ o. gist_of (asks (Ref reference) ∷ (part_at o).notes)) came.0)
                (goes_then over s u t asked (gist_of (part_at found).notes) (tests_at found ++ cs) cs goes inner.1),
          )

    -- one that names no document
    pub reference_unfound : (hops : ℕ) (s u t : JoinState) → 0 < hops → Names reference s u None
        → HearsMore (questions_of over) heard_words.failing u t → StaysThere u t → Follows hops s t unresolved
    reference_unfound zero s u t left names fails there = absurd (omega (arith, left))
    reference_unfound (suc hops) s u t left names fails there =
        reference_followed hops s u t None unresolved names (λ cs stands. (refl, goes_hearing over u t heard_words.failing cs fails there stands))

    -- one that names a document
    pub reference_found : (hops : ℕ) (s u t : JoinState) (found : Tree) (a : Answer) → 0 < hops → Names reference s u (Some found)
        → Joins over (child_tests (hops - 1) path (as_child found) w) (child_part w.looks w.request (hops - 1) path (as_child found)) u t a → Follows hops s t a
    reference_found zero s u t found a left names joins = absurd (omega (arith, left))
    reference_found (suc hops) s u t found a left names joins =
        let back : suc hops - 1 ≡ hops = omega arith in
        reference_followed hops s u t (Some found) a names
        (subst (λ n. Joins over (child_tests n path (as_child found) w) (child_part w.looks w.request n path (as_child found)) u t a) back joins)

-- ---- what comes back

module _ {L : Type 0} (over : Over L) (looks : L → Looks) (hops : ℕ) (path : List DocKey) where
  abbrev w : Scene
  w = scene_in looks over

  -- where something comes back, it is joined of these tests
  abbrev pub Back : {E : Type 0} → Result (Option Answer) E → List Came → Part Answer → JoinState → JoinState → Type 0
  Back result tests part s t = IfOk result (λ a. Joins over tests part s t (or_nothing a))

  back_same : {E : Type 0} (result : Result (Option Answer) E) (tests others : List Came) (part other : Part Answer) (s t : JoinState) → others ≡ tests → other ≡ part
      → Back result others other s t → Back result tests part s t
  back_same result tests others part other s t same alike back =
      subst (λ p. Back result tests p s t) alike (subst (λ cs. Back result cs other s t) same back)

  abbrev Child_back : {E : Type 0} → Result (Option Answer) E → Child → JoinState → JoinState → Type 0
  Child_back result child s t = Back result (child_tests hops path child w) (child_part w.looks w.request hops path child) s t

  pub policy_back : {E : Type 0} (result : Result (Option Answer) E) (child : Child) (policy : Policy) (s t : JoinState) → child ≡ children.Policy policy
      → Back result (policy_tests path policy w) (policy_part w.looks w.request path policy) s t → Child_back result child s t
  policy_back result child policy s t is back =
      subst (λ c. Child_back result c s t) (sym is)
      (back_same result (child_tests hops path (children.Policy policy) w) (policy_tests path policy w)
      (child_part w.looks w.request hops path (children.Policy policy)) (policy_part w.looks w.request path policy) s t
      (sym (policy_child hops path policy w)) (policy_is w hops path policy) back)

  pub set_back : {E : Type 0} (result : Result (Option Answer) E) (child : Child) (set : PolicySet) (s t : JoinState) → child ≡ children.Set set
      → Back result (set_tests hops path set w) (set_part w.looks w.request hops path set) s t → Child_back result child s t
  set_back result child set s t is back =
      subst (λ c. Child_back result c s t) (sym is)
      (back_same result (child_tests hops path (children.Set set) w) (set_tests hops path set w)
      (child_part w.looks w.request hops path (children.Set set)) (set_part w.looks w.request hops path set) s t
      (sym (set_child hops path set w)) (set_is w hops path set) back)

  pub reference_back : {E : Type 0} (result : Result (Option Answer) E) (child : Child) (reference : Reference) (s t : JoinState) → child ≡ children.Reference reference
      → Back result (reference_tests hops path reference w) (reference_part w.looks w.request hops path reference) s t → Child_back result child s t
  reference_back result child reference s t is back =
      subst (λ c. Child_back result c s t) (sym is)
      (back_same result (child_tests hops path (children.Reference reference) w) (reference_tests hops path reference w)
      (child_part w.looks w.request hops path (children.Reference reference)) (reference_part w.looks w.request hops path reference) s t
      (sym (reference_child hops path reference w)) (reference_is w hops path reference) back)

  -- a reference that is followed
  pub followed_back : {E : Type 0} (result : Result (Option Answer) E) (reference : Reference) (found : Tree) (s u t : JoinState) → 0 < hops → Names over reference s u (Some found)
      → Back result (child_tests (hops - 1) path (as_child found) w) (child_part w.looks w.request (hops - 1) path (as_child found)) u t
      → Back result (reference_tests hops path reference w) (reference_part w.looks w.request hops path reference) s t
  followed_back result reference found s u t left names back =
      IfOk-weaker result
      (λ a. Joins over (child_tests (hops - 1) path (as_child found) w) (child_part w.looks w.request (hops - 1) path (as_child found)) u t (or_nothing a))
      (λ a. Joins over (reference_tests hops path reference w) (reference_part w.looks w.request hops path reference) s t (or_nothing a))
      (λ a joins. reference_found over w path reference hops s u t found (or_nothing a) left names joins) back

  module _ (set : PolicySet) where
    abbrev here : List DocKey
    here = path ++ set_key set.id set.version ∷ []

    -- the children of a set
    pub children_back : {E : Type 0} (result : Result (Option Answer) E) (algorithm : RuleAlg) (at : List DocKey) (children : List Child) (s t : JoinState)
        → Back result (children_tests hops at children w) (children_combined w.looks w.request hops at algorithm children) s t
        → set.algorithm ≡ Shared algorithm → at ≡ here → children ≡ set.children
        → Back result (children_tests hops here set.children w) (set_children w.looks w.request hops path set) s t
    children_back result algorithm at children s t back by at-is children-is =
        back_same result (children_tests hops here set.children w) (children_tests hops at children w)
        (set_children w.looks w.request hops path set) (children_combined w.looks w.request hops at algorithm children) s t
        (ap (λ keys. children_tests hops keys children w) at-is ∙ ap (λ cs. children_tests hops here cs w) children-is)
        (shared-part w.looks w.request hops path set algorithm at children by at-is children-is) back

    -- a set whose target matches
    pub match_back : {E : Type 0} (result : Result (Option Answer) E) (s u v t : JoinState) → Targets over s u is.Match → GivesNothing over u v → HearsNothing u v
        → Back result (children_tests hops here set.children w) (set_children w.looks w.request hops path set) v t
        → Back result (set_tests hops path set w) (set_part w.looks w.request hops path set) s t
    match_back result s u v t targets given silent back =
        IfOk-weaker result
        (λ a. Joins over (children_tests hops here set.children w) (set_children w.looks w.request hops path set) v t (or_nothing a))
        (λ a. Joins over (set_tests hops path set w) (set_part w.looks w.request hops path set) s t (or_nothing a))
        (λ a joins. set_joins_match over w hops path set s u v t (or_nothing a) targets given silent joins) back
