-- Parts that are joined one behind the other, up to the first that fixes the decision; and rules and policies by what is heard of their tests.
use Rattle.std.proofs.Common.{◌≡◌, ℕ, ◌+◌, ◌<◌, ◌≤◌, Bool, true, false, List, [], ◌∷◌, ◌++◌, length, map, drop, get_or, refl, sym, ap, ap₂, ◌∙◌, subst, append_assoc}
use Rattle.std.specs.Prelude.{if◌then◌else◌}
use Rattle.std.specs.List.{flat_map}
use Rattle.std.proofs.Math.ListN.{drop_of_length-le}
use Rattle.std.proofs.lemmas.List.{append-nil}
use Rattle.ent_combine.specs.Combine.{fixes}
use Rattle.ent_combine.specs.Seen.{up_to_first}
use Rattle.ent_combine.specs.declared.combiner.Progress.{Progress}
use Rattle.ent_combine.specs.declared.combiner.Progress.TheVariants.{Go, Stop}
use Rattle.ent_combine.specs.declared.outcome.RuleAlg.{RuleAlg}
use Rattle.ent_policy.specs.declared.document.Policy.{Policy}
use Rattle.ent_policy.specs.declared.document.Rule.{Rule}
use Rattle.ent_policy.specs.declared.expression.VariableDefinition.{VariableDefinition}
use Rattle.ent_policy.specs.declared.key.DocKey.{DocKey}
use Rattle.ent_request.specs.Looks.{Looks}
use Rattle.ent_request.specs.Part.{Part, notes_of, seen_parts, values}
use Rattle.ent_request.specs.Questions.{AreNumbers}
use Rattle.ent_request.specs.Plain.{nothing}
use Rattle.ent_request.specs.declared.answer.Answer.{Answer}
use Rattle.ent_request.specs.declared.answer.Status.{Status}
use Rattle.ent_request.specs.declared.request.Request.{Request}
use Rattle.ent_request.proofs.Lists.{at_item}
use Rattle.ent_walk.specs.Given.{finished}
use Rattle.ent_walk.specs.Judged.{judgement_of, stops}
use Rattle.ent_walk.specs.Node.{policy_key, policy_rules, rules_combined}
use Rattle.ent_walk.specs.Rule.{condition_part, decided, rule_part}
use Rattle.ent_walk.specs.Target.{is_match, target_part}
use Rattle.ent_walk.specs.declared.evaluated.Truth.{Truth}
use Rattle.ent_walk.specs.declared.evaluated.Truth.TheVariants as truth
use Rattle.ent_walk.specs.declared.gather.Gathering.{Gathering}
use Rattle.ent_walk.specs.declared.target.Targeted.{Targeted}
use Rattle.ent_walk.specs.declared.target.Targeted.TheVariants as is
use Rattle.ent_walk.specs.proofs_only.Gathered.{Gathers, HasGathered, Tells, judged_by}
use Rattle.ent_walk.proofs.Children.{judged_seen}
use Rattle.ent_walk.proofs.Going.{values_to, values_to-next}
use Rattle.memo_plan.specs.Heard.{Came, Gist, Heard, came_of_rule, condition, decides, decides_part, gist_of, heard, is_true, target}
use Rattle.memo_plan.proofs.Gists.{behind, gist_append, heard_under, rule_heard}
use Rattle.memo_replay.specs.declared.over.Over.{Over}
use Rattle.memo_replay.specs.declared.state.JoinState.{JoinState}
use Rattle.memo_replay.specs.proofs_only.Heard.{HearsMore, HearsNothing, gist_in, joined}
use Rattle.memo_replay.specs.proofs_only.Stands.{Goes, Joins, Passes, Stands, TakesPart, heard_matched, matched_came, questions_of}
use Rattle.memo_replay.proofs.Hearing.{goes_nowhere, goes_same, goes_then, hears_before_nothing, joined_assoc, joined_none, nothing_itself}

-- ---- parts, one behind the other

-- where it goes on, nothing is fixed
go_is : (b : Bool) → Go ≡ (if b then Stop else Go) → b ≡ false
go_is true e = absurd (cc)
go_is false e = refl

-- where it stops, the decision is
stop_is : (b : Bool) → Stop ≡ (if b then Stop else Go) → b ≡ true
stop_is true e = refl
stop_is false e = absurd (cc)

-- what is seen of parts, and of their values, by whether the first fixes the whole
seen_on : {A : Type 0} (stop : A → Bool) (p : Part A) (ps : List (Part A)) → stop p.value ≡ false → seen_parts stop (p ∷ ps) ≡ p ∷ seen_parts stop ps
seen_on stop p ps not = rw not refl

seen_off : {A : Type 0} (stop : A → Bool) (p : Part A) (ps : List (Part A)) → stop p.value ≡ true → seen_parts stop (p ∷ ps) ≡ p ∷ []
seen_off stop p ps is = rw is refl

first_on : {A : Type 0} (stop : A → Bool) (v : A) (vs : List A) → stop v ≡ false → up_to_first stop (v ∷ vs) ≡ v ∷ up_to_first stop vs
first_on stop v vs not = rw not refl

first_off : {A : Type 0} (stop : A → Bool) (v : A) (vs : List A) → stop v ≡ true → up_to_first stop (v ∷ vs) ≡ v ∷ []
first_off stop v vs is = rw is refl

module _ {L X : Type 0} (over : Over L) (algorithm : RuleAlg) (part : X → Part Answer) (tests : X → List Came) where
  -- what is heard of parts, up to the first that fixes the decision
  abbrev pub heard_of : List X → Gist
  heard_of xs = gist_of (notes_of (seen_parts (stops algorithm) (map part xs)))

  -- the first i parts are gathered, none of them fixes the decision, and outcomes are read from the next on
  pub record Proceeds (xs : List X) (i : ℕ) (start now : JoinState) (g : Gathering) (cs : List Came) : Type 0 where
    pub seen : up_to_first (stops algorithm) (values (map part xs)) ≡ values_to part xs i ++ up_to_first (stops algorithm) (values (map part (drop i xs)))
    pub gathered : HasGathered algorithm g (values_to part xs i)
    pub hears : AreNumbers (questions_of over) start.asked
        → AreNumbers (questions_of over) now.asked × (joined (gist_in (questions_of over) now) (heard_of (drop i xs)) ≡ joined (gist_in (questions_of over) start) (heard_of xs))
    pub stands : Stands over now (flat_map tests (drop i xs) ++ cs)

  -- no part yet
  pub begins : (xs : List X) (s : JoinState) (g : Gathering) (cs : List Came) → HasGathered algorithm g [] → Stands over s (flat_map tests xs ++ cs) → Proceeds xs 0 s s g cs
  begins xs s g cs has stands = record { seen = refl; gathered = has; hears = λ within. (within, refl); stands = stands }

  -- one part more
  module _ (xs : List X) (i : ℕ) (x : X) (start now next : JoinState) (g h : Gathering) (progress : Progress) (cs : List Came)
      (below : i < length xs) (at : x ≡ get_or xs i x) (so_far : Proceeds xs i start now g cs) (takes : TakesPart over (tests x) (heard (part x)) now next g h progress) where
    -- the parts behind it
    abbrev left : List X
    left = drop (i + 1) xs

    -- it is the next
    here : drop i xs ≡ x ∷ left
    here = at_item xs i x below at

    -- its tests come first, and then those of the others
    before : Stands over now (tests x ++ (flat_map tests left ++ cs))
    before = subst (Stands over now) (ap (λ ys. flat_map tests ys ++ cs) here ∙ append_assoc (tests x) (flat_map tests left) cs) so_far.stands

    -- it is gathered, its progress tells whether it fixes the decision, and what is heard of it is heard more
    gathered : HasGathered algorithm h (values_to part xs i ++ (part x).value ∷ [])
    gathered = (takes (flat_map tests left ++ cs) before).0 algorithm (values_to part xs i) so_far.gathered

    says : progress ≡ (if fixes algorithm (part x).value.decision then Stop else Go)
    says = (takes (flat_map tests left ++ cs) before).1.0 algorithm (values_to part xs i) so_far.gathered

    goes : Goes over now next (gist_of (part x).notes) (flat_map tests left ++ cs)
    goes = (takes (flat_map tests left ++ cs) before).1.1

    -- that doesn't fix the decision
    pub proceeds_on : progress ≡ Go → Proceeds xs (i + 1) start next h cs
    proceeds_on go =
        let not : stops algorithm (part x).value ≡ false = go_is (fixes algorithm (part x).value.decision) (sym go ∙ says) in
        let to = values_to-next part xs i x below at in
        let more : heard_of (drop i xs) ≡ joined (gist_of (part x).notes) (heard_of left) =
        ap heard_of here ∙ ap (λ ps. gist_of (notes_of ps)) (seen_on (stops algorithm) (part x) (map part left) not)
        ∙ gist_append (part x).notes (notes_of (seen_parts (stops algorithm) (map part left))) in
        record {
          seen = so_far.seen ∙ ap (λ ys. values_to part xs i ++ up_to_first (stops algorithm) (values (map part ys))) here
              ∙ ap (λ vs. values_to part xs i ++ vs) (first_on (stops algorithm) (part x).value (values (map part left)) not)
              ∙ sym (append_assoc (values_to part xs i) ((part x).value ∷ []) (up_to_first (stops algorithm) (values (map part left))))
              ∙ ap (λ vs. vs ++ up_to_first (stops algorithm) (values (map part left))) (sym to);
          gathered = subst (HasGathered algorithm h) (sym to) gathered;
          hears = λ within.
              let old = so_far.hears within in
              let new = goes.0 old.0 in (
                new.0,
                ap (λ k. joined k (heard_of left)) new.1 ∙ joined_assoc (gist_in (questions_of over) now) (gist_of (part x).notes) (heard_of left)
                    ∙ ap (joined (gist_in (questions_of over) now)) (sym more) ∙ old.1,
              );
          stands = goes.1;
        }

    -- that fixes it, where those behind it are passed
    pub stopped : (after : JoinState) (here : List DocKey) (result : Answer) → progress ≡ Stop
        → Passes over (flat_map tests (drop (i + 1) xs)) next after → HearsNothing next after
        → ((js : List Answer) → HasGathered algorithm h js → result ≡ judged_by here algorithm js)
        → (result ≡ judgement_of here algorithm (values (map part xs))) × Goes over start after (heard_of xs) cs
    stopped after path result stop passes silent finish =
        let is : stops algorithm (part x).value ≡ true = stop_is (fixes algorithm (part x).value.decision) (sym stop ∙ says) in
        let seen : up_to_first (stops algorithm) (values (map part xs)) ≡ values_to part xs i ++ (part x).value ∷ [] =
        so_far.seen ∙ ap (λ ys. values_to part xs i ++ up_to_first (stops algorithm) (values (map part ys))) here
        ∙ ap (λ vs. values_to part xs i ++ vs) (first_off (stops algorithm) (part x).value (values (map part left)) is) in
        let last : heard_of (drop i xs) ≡ gist_of (part x).notes =
        ap heard_of here ∙ ap (λ ps. gist_of (notes_of ps)) (seen_off (stops algorithm) (part x) (map part left) is)
        ∙ ap gist_of (append-nil (part x).notes) in
        let more : HearsMore (questions_of over) (heard_of xs) start next =
        λ within.
        let old = so_far.hears within in
        let new = goes.0 old.0 in
        (new.0, new.1 ∙ ap (joined (gist_in (questions_of over) now)) (sym last) ∙ old.1) in (
          finish (values_to part xs i ++ (part x).value ∷ []) gathered ∙ ap (judged_by path algorithm) (sym seen)
              ∙ judged_seen path algorithm (values (map part xs)),
          (hears_before_nothing (questions_of over) (heard_of xs) start next after more silent, passes cs goes.1),
        )

  -- no part fixes the decision
  pub all_joined : (xs : List X) (i : ℕ) (start now : JoinState) (g : Gathering) (cs : List Came) (path : List DocKey) (result : Answer)
      → length xs ≤ i → Proceeds xs i start now g cs
      → ((js : List Answer) → HasGathered algorithm g js → result ≡ judged_by path algorithm js)
      → (result ≡ judgement_of path algorithm (values (map part xs))) × Goes over start now (heard_of xs) cs
  all_joined xs i start now g cs path result past so_far finish =
      let none : drop i xs ≡ [] = drop_of_length-le xs past in
      let seen : up_to_first (stops algorithm) (values (map part xs)) ≡ values_to part xs i =
      so_far.seen ∙ ap (λ ys. values_to part xs i ++ up_to_first (stops algorithm) (values (map part ys))) none ∙ append-nil (values_to part xs i) in
      let more : HearsMore (questions_of over) (heard_of xs) start now =
      λ within.
      let old = so_far.hears within in
      (old.0, sym (joined_none (gist_in (questions_of over) now)) ∙ ap (λ ys. joined (gist_in (questions_of over) now) (heard_of ys)) (sym none) ∙ old.1) in (
        finish (values_to part xs i) so_far.gathered ∙ ap (judged_by path algorithm) (sym seen) ∙ judged_seen path algorithm (values (map part xs)),
        (more, subst (λ ys. Stands over now (flat_map tests ys ++ cs)) none so_far.stands),
      )

-- ---- a test, and what stands behind it

module _ {L : Type 0} (over : Over L) where
  -- nothing more is tested
  takes_nothing : (s : JoinState) (old new : Gathering) (progress : Progress) (a : Answer) → Gathers old new a → Tells old a progress
      → TakesPart over [] (record { value = a; gist = gist_of [] }) s s old new progress
  takes_nothing s old new progress a gathers tells cs stands =
      (gathers, (tells, goes_nowhere over s s cs (nothing_itself s) (refl, refl) stands))

  -- what a test came to, and what is tested behind it
  takes_behind : {V : Type 0} (x : Came) (rest more : List Came) (v w : V) (g : Gist) (h k : Heard Answer) (s t u : JoinState)
      (old new : Gathering) (progress : Progress)
      → ((cs : List Came) → Stands over s (x ∷ cs) → (v ≡ w) × Goes over s t g cs)
      → (v ≡ w → (rest ≡ more) × (h ≡ behind g k))
      → TakesPart over more k t u old new progress → TakesPart over (x ∷ rest) h s u old new progress
  takes_behind x rest more v w g h k s t u old new progress reads same takes cs stands =
      let one = reads (rest ++ cs) stands in
      let by = same one.0 in
      let there : Stands over t (more ++ cs) = subst (λ ys. Stands over t (ys ++ cs)) by.0 one.1.1 in
      let two = takes cs there in
      let value : k.value ≡ h.value = ap (λ (y : Heard Answer). y.value) (sym by.1) in (
        subst (Gathers old new) value two.0,
        (
          subst (λ a. Tells old a progress) value two.1.0,
          goes_same over s u (joined g k.gist) h.gist cs (ap (λ (y : Heard Answer). y.gist) (sym by.1))
              (goes_then over s t u g k.gist (more ++ cs) cs (one.1.0, there) two.1.1),
        ),
      )

  -- what a rule decides
  takes_decided : (h : Heard Answer) (a : Answer) (s t : JoinState) (old new : Gathering) (progress : Progress)
      → ((cs : List Came) → Stands over s (decides h ∷ cs) → (a ≡ h.value) × Goes over s t h.gist cs)
      → Gathers old new a → Tells old a progress → TakesPart over (decides h ∷ []) h s t old new progress
  takes_decided h a s t old new progress reads gathers tells cs stands =
      let one = reads cs stands in
      (subst (Gathers old new) one.0 gathers, (subst (λ b. Tells old b progress) one.0 tells, one.1))

  -- ---- a rule

  module _ (looks : Looks) (request : Request) (definitions : List VariableDefinition) (here : List DocKey) (rule : Rule) where
    -- what is heard of its tests
    abbrev heard_target : Heard Targeted
    heard_target = heard (target_part looks request rule.target)

    abbrev heard_condition : Heard Truth
    heard_condition = heard (condition_part looks request definitions rule.condition)

    abbrev heard_decided : Heard Answer
    heard_decided = heard (decides_part looks request definitions here rule)

    -- and of what it gives itself
    abbrev own : Answer → Heard Answer
    own a = heard (finished looks request definitions rule.given a)

    -- what is tested behind a condition, by what this came to
    abbrev behind_condition : Truth → List Came
    behind_condition c = if is_true c then decides heard_decided ∷ [] else []

    -- and behind a target
    abbrev behind_target : Targeted → List Came
    behind_target v = if is_match v then condition heard_condition ∷ behind_condition heard_condition.value else []

    -- what is heard of it
    rule_is : heard (rule_part looks request definitions here rule) ≡ behind heard_target.gist (heard_under here rule heard_target.value heard_condition own)
    rule_is =
        rule_heard rule.id (target_part looks request rule.target) (condition_part looks request definitions rule.condition)
        (finished looks request definitions rule.given) here rule

    module _ (s t u : JoinState) (old new : Gathering) (progress : Progress) where
      -- what it comes to by what its target came to
      takes_target : (v : Targeted) (k : Heard Answer)
          → ((h : Heard Targeted) (cs : List Came) → Stands over s (target h ∷ cs) → (v ≡ h.value) × Goes over s t h.gist cs)
          → heard_under here rule v heard_condition own ≡ k
          → TakesPart over (behind_target v) k t u old new progress
          → TakesPart over (came_of_rule looks request definitions here rule) (heard (rule_part looks request definitions here rule)) s u old new progress
      takes_target v k reads comes takes =
          takes_behind (target heard_target) (behind_target heard_target.value) (behind_target v) v heard_target.value heard_target.gist
          (heard (rule_part looks request definitions here rule)) k s t u old new progress
          (reads heard_target)
          (λ same. (
            ap behind_target (sym same),
            rule_is ∙ ap (λ w. behind heard_target.gist (heard_under here rule w heard_condition own)) (sym same)
                ∙ ap (behind heard_target.gist) comes,
          )) takes

      -- what it comes to behind a target that matches, by what its condition came to
      takes_condition : (v : Truth) (k : Heard Answer)
          → ((h : Heard Truth) (cs : List Came) → Stands over s (condition h ∷ cs) → (v ≡ h.value) × Goes over s t h.gist cs)
          → own (decided here rule v) ≡ k
          → TakesPart over (behind_condition v) k t u old new progress
          → TakesPart over (matched_came looks request definitions here rule) (heard_matched looks request definitions here rule) s u old new progress
      takes_condition v k reads comes takes =
          takes_behind (condition heard_condition) (behind_condition heard_condition.value) (behind_condition v) v heard_condition.value heard_condition.gist
          (heard_matched looks request definitions here rule) k s t u old new progress
          (reads heard_condition)
          (λ same. (
            ap behind_condition (sym same),
            ap (λ w. behind heard_condition.gist (own (decided here rule w))) (sym same) ∙ ap (behind heard_condition.gist) comes,
          )) takes

    module _ (s t : JoinState) (old new : Gathering) (progress : Progress) where
      -- its target doesn't match
      pub rule_without_match : (v : Targeted) → v ≡ is.NoMatch
          → ((h : Heard Targeted) (cs : List Came) → Stands over s (target h ∷ cs) → (v ≡ h.value) × Goes over s t h.gist cs)
          → Gathers old new nothing → Tells old nothing progress
          → TakesPart over (came_of_rule looks request definitions here rule) (heard (rule_part looks request definitions here rule)) s t old new progress
      rule_without_match v same reads gathers tells =
          takes_target s t t old new progress is.NoMatch (record { value = nothing; gist = gist_of [] })
          (λ h cs stands. let one = reads h cs stands in (sym same ∙ one.0, one.1)) refl (takes_nothing t old new progress nothing gathers tells)

      -- its target is Indeterminate
      pub rule_with_spoiled : (v : Targeted) (status : Status) → v ≡ is.Indeterminate status
          → ((h : Heard Targeted) (cs : List Came) → Stands over s (target h ∷ cs) → (v ≡ h.value) × Goes over s t h.gist cs)
          → Gathers old new (decided here rule (truth.Indeterminate status)) → Tells old (decided here rule (truth.Indeterminate status)) progress
          → TakesPart over (came_of_rule looks request definitions here rule) (heard (rule_part looks request definitions here rule)) s t old new progress
      rule_with_spoiled v status same reads gathers tells =
          takes_target s t t old new progress (is.Indeterminate status) (record { value = decided here rule (truth.Indeterminate status); gist = gist_of [] })
          (λ h cs stands. let one = reads h cs stands in (sym same ∙ one.0, one.1)) refl
          (takes_nothing t old new progress (decided here rule (truth.Indeterminate status)) gathers tells)

      -- its target matches
      pub rule_with_match : (u : JoinState) (v : Targeted) → v ≡ is.Match
          → ((h : Heard Targeted) (cs : List Came) → Stands over s (target h ∷ cs) → (v ≡ h.value) × Goes over s t h.gist cs)
          → TakesPart over (matched_came looks request definitions here rule) (heard_matched looks request definitions here rule) t u old new progress
          → TakesPart over (came_of_rule looks request definitions here rule) (heard (rule_part looks request definitions here rule)) s u old new progress
      rule_with_match u v same reads takes =
          takes_target s t u old new progress is.Match (heard_matched looks request definitions here rule)
          (λ h cs stands. let one = reads h cs stands in (sym same ∙ one.0, one.1)) refl takes

      -- its condition is False
      pub matched_without : (v : Truth) → v ≡ truth.False
          → ((h : Heard Truth) (cs : List Came) → Stands over s (condition h ∷ cs) → (v ≡ h.value) × Goes over s t h.gist cs)
          → Gathers old new nothing → Tells old nothing progress
          → TakesPart over (matched_came looks request definitions here rule) (heard_matched looks request definitions here rule) s t old new progress
      matched_without v same reads gathers tells =
          takes_condition s t t old new progress truth.False (record { value = nothing; gist = gist_of [] })
          (λ h cs stands. let one = reads h cs stands in (sym same ∙ one.0, one.1)) refl (takes_nothing t old new progress nothing gathers tells)

      -- its condition is Indeterminate
      pub matched_spoiled : (v : Truth) (status : Status) → v ≡ truth.Indeterminate status
          → ((h : Heard Truth) (cs : List Came) → Stands over s (condition h ∷ cs) → (v ≡ h.value) × Goes over s t h.gist cs)
          → Gathers old new (decided here rule (truth.Indeterminate status)) → Tells old (decided here rule (truth.Indeterminate status)) progress
          → TakesPart over (matched_came looks request definitions here rule) (heard_matched looks request definitions here rule) s t old new progress
      matched_spoiled v status same reads gathers tells =
          takes_condition s t t old new progress (truth.Indeterminate status) (record { value = decided here rule (truth.Indeterminate status); gist = gist_of [] })
          (λ h cs stands. let one = reads h cs stands in (sym same ∙ one.0, one.1)) refl
          (takes_nothing t old new progress (decided here rule (truth.Indeterminate status)) gathers tells)

      -- its condition is True
      pub matched_decided : (u : JoinState) (v : Truth) (a : Answer) → v ≡ truth.True
          → ((h : Heard Truth) (cs : List Came) → Stands over s (condition h ∷ cs) → (v ≡ h.value) × Goes over s t h.gist cs)
          → ((h : Heard Answer) (cs : List Came) → Stands over t (decides h ∷ cs) → (a ≡ h.value) × Goes over t u h.gist cs)
          → Gathers old new a → Tells old a progress
          → TakesPart over (matched_came looks request definitions here rule) (heard_matched looks request definitions here rule) s u old new progress
      matched_decided u v a same reads decides_it gathers tells =
          takes_condition s t u old new progress truth.True heard_decided
          (λ h cs stands. let one = reads h cs stands in (sym same ∙ one.0, one.1)) refl
          (takes_decided heard_decided a t u old new progress (decides_it heard_decided) gathers tells)

-- ---- the rules of a policy

-- at the path to the policy
pub rules_joined : {L : Type 0} (over : Over L) (looks : Looks) (request : Request) (policy : Policy) (path here : List DocKey) (rules : List Rule) (s t : JoinState) (a : Answer)
    → here ≡ path ++ policy_key policy ∷ [] → rules ≡ policy.rules
    → Joins over (flat_map (came_of_rule looks request policy.variables here) rules) (rules_combined looks request policy.variables here policy.algorithm rules) s t a
    → Joins over (flat_map (came_of_rule looks request policy.variables (path ++ policy_key policy ∷ [])) policy.rules) (policy_rules looks request path policy) s t a
rules_joined over looks request policy path here rules s t a same same_rules joins =
    subst (λ (ks : List DocKey). Joins over (flat_map (came_of_rule looks request policy.variables ks) policy.rules)
    (rules_combined looks request policy.variables ks policy.algorithm policy.rules) s t a) same
    (subst (λ (rs : List Rule). Joins over (flat_map (came_of_rule looks request policy.variables here) rs)
    (rules_combined looks request policy.variables here policy.algorithm rs) s t a) same_rules joins)
