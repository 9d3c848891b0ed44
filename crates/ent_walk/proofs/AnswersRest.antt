-- What policy sets and answers rest on.
use Rattle.std.proofs.Common.{◌≡◌, ℕ, zero, suc, Bool, true, false, List, [], ◌∷◌, ◌++◌, map, get_or, refl, sym, ap, ◌∙◌, subst, Option, Some, None}
use Rattle.std.specs.Prelude.{if◌then◌else◌}
use Rattle.std.specs.List.{All, AllByRecursion, flat_map}
use Rattle.std.proofs.lemmas.List.{map-append}
use Rattle.ent_combine.specs.Choose.{choose, is_bad}
use Rattle.ent_combine.specs.Seen.{rest_to_passing}
use Rattle.ent_combine.specs.declared.chooser.TargetResult.{TargetResult}
use Rattle.ent_combine.specs.declared.outcome.PolicyAlg.{PolicyAlg}
use Rattle.ent_combine.specs.declared.outcome.PolicyAlg.TheVariants.{Shared, OnlyOne}
use Rattle.ent_combine.proofs.Choosing.{seen_targets_enough}
use Rattle.ent_policy.specs.Children.{as_child}
use Rattle.ent_policy.specs.declared.document.Child.{Child}
use Rattle.ent_policy.specs.declared.document.Child.TheOpen.{Child-F, PolicySet-F}
use Rattle.ent_policy.specs.declared.document.Child.TheFolds.{fold-roll-Child, fold-roll-PolicySet, ind-Child, map-Child, map-PolicySet}
use Rattle.ent_policy.specs.declared.document.Child.TheViews.{roll-Child, roll-PolicySet}
use Rattle.ent_policy.specs.declared.document.PolicySet.{PolicySet}
use Rattle.ent_policy.specs.declared.document.Tree.{Tree}
use Rattle.ent_policy.specs.declared.key.DocKey.{DocKey}
use Rattle.ent_policy.specs.declared.key.Reference.{Reference}
use Rattle.ent_request.specs.declared.answer.Answer.{Answer}
use Rattle.ent_walk.specs.declared.only.Only.{Only}
use Rattle.ent_walk.specs.declared.only.Only.TheVariants as only
use Rattle.ent_request.specs.declared.question.Question.TheVariants.{Root, Ref}
use Rattle.ent_walk.specs.declared.target.Targeted.{Targeted}
use Rattle.ent_walk.specs.Answer.{answer_part, asked, looked_up, most_hops, recorded, root_part}
use Rattle.ent_walk.specs.Given.{finished}
use Rattle.ent_request.specs.Plain.{nothing}
use Rattle.ent_walk.specs.Law.{EqualFindingsGiveEqualAnswers, EqualFindingsGiveEqualConditions, EqualFindingsGiveEqualTargets, EqualLookUpsGiveEqualAnswers, FindsSame}
use Rattle.ent_request.specs.SameLook.{IsSameLook}
use Rattle.ent_walk.specs.Node.{Node, child_step, children_part, combined, followed, found_node, node_with, policy_key, policy_part, refer, set_key, set_step}
use Rattle.ent_walk.specs.proofs_only.Node.{set_node_with}
use Rattle.ent_request.specs.Causes.{told_once}
use Rattle.ent_request.specs.Note.{Note, asks, causes_in, fails, passed, questions_in}
use Rattle.ent_request.specs.Noted.{noted}
use Rattle.ent_request.specs.Sources.{keys_of}
use Rattle.ent_walk.specs.Only.{chosen_part, choice_part, chosen, first_target_status, only_one, result_of_target, results, seen_choice, several, spoils}
use Rattle.ent_request.specs.Part.{Part, after_look, settled, without_look, notes_of, values}
use Rattle.ent_walk.specs.Judged.{has_failed}
use Rattle.ent_walk.specs.Target.{target_part}
use Rattle.ent_walk.proofs.Finds.{all-find}
use Rattle.ent_request.proofs.Keys.{all_noted, by_recursion}
use Rattle.ent_walk.proofs.Rests.{AllRest, Rests, Same, World, and_then-rests, combined-rests, condition-rests, element-rests, finished-rests, policy-rests, rests-by, rule-rests, settled-rests, target-rests}
use Rattle.ent_walk.proofs.Rests.{within-rests}
use Rattle.ent_request.proofs.Lists.{first_looks, later_looks}
use Rattle.ent_walk.proofs.Sets.{map-map}
use Rattle.ent_walk.proofs.Choices.{values-append}
use Rattle.ent_request.specs.declared.request.Request.{Request}
use Rattle.ent_request.specs.Looks.{Looks}
use Rattle.ent_walk.specs.Rule.{condition_part, rule_part}

-- ---- the only child that applies

-- parts up to the first that makes those before it pass are seen alike
rest-rests : {X A : Type 0} (s t : World) (passes : List (Part A) → Bool) (part : World → X → Part A) (before : List (Part A)) (xs : List X) → AllRest s t part xs
    → AllByRecursion (Same s t) (notes_of (rest_to_passing passes before (map (part s) xs))) → rest_to_passing passes before (map (part t) xs) ≡ rest_to_passing passes before (map (part s) xs)
rest-rests s t passes part before [] each h = refl
rest-rests {X} {A} s t passes part before (x ∷ xs) each h = at (passes (before ++ part s x ∷ [])) (part s x) (part t x) refl each.0 (rest-rests s t passes part (before ++ part s x ∷ []) xs each.1) h where
  at : (b : Bool) (p q : Part A) → passes (before ++ p ∷ []) ≡ b → (AllByRecursion (Same s t) p.notes → q ≡ p)
      → (AllByRecursion (Same s t) (notes_of (rest_to_passing passes (before ++ p ∷ []) (map (part s) xs))) → rest_to_passing passes (before ++ p ∷ []) (map (part t) xs) ≡ rest_to_passing passes (before ++ p ∷ []) (map (part s) xs))
      → AllByRecursion (Same s t) (notes_of (if b then p ∷ [] else p ∷ rest_to_passing passes (before ++ p ∷ []) (map (part s) xs)))
      → (if passes (before ++ q ∷ []) then q ∷ [] else q ∷ rest_to_passing passes (before ++ q ∷ []) (map (part t) xs)) ≡ (if b then p ∷ [] else p ∷ rest_to_passing passes (before ++ p ∷ []) (map (part s) xs))
  at true p q is same later h = rw (same (first_looks (Same s t) p.notes [] h), is) refl
  at false p q is same later h =
      let rest : List (Part A) = rest_to_passing passes (before ++ p ∷ []) (map (part s) xs) in
      rw (same (first_looks (Same s t) p.notes (notes_of rest) h), is) (ap (λ rs. p ∷ rs) (later (later_looks (Same s t) p.notes (notes_of rest) h)))

-- what is chosen by, of several parts
abbrev results_of : List (Part Targeted) → List TargetResult
results_of ps = results (values ps)

results-more : (before : List (Part Targeted)) (p : Part Targeted) → results_of (before ++ p ∷ []) ≡ results_of before ++ result_of_target p.value ∷ []
results-more before p = ap results (values-append before (p ∷ [])) ∙ map-append result_of_target (values before) (p.value ∷ [])

-- the targets that are seen are those whose results are
rest-results : (before rest : List (Part Targeted)) → results_of (rest_to_passing spoils before rest) ≡ rest_to_passing (λ us. is_bad (choose us)) (results_of before) (results_of rest)
rest-results before [] = refl
rest-results before (p ∷ rest) =
    at (spoils (before ++ p ∷ [])) (results_of before ++ result_of_target p.value ∷ []) (ap (λ us. is_bad (choose us)) (sym (results-more before p)))
    (rest-results (before ++ p ∷ []) rest ∙ ap (λ us. rest_to_passing (λ vs. is_bad (choose vs)) us (results_of rest)) (results-more before p)) where
      at : (b : Bool) (us : List TargetResult) → is_bad (choose us) ≡ b → results_of (rest_to_passing spoils (before ++ p ∷ []) rest) ≡ rest_to_passing (λ vs. is_bad (choose vs)) us (results_of rest)
          → results_of (if b then p ∷ [] else p ∷ rest_to_passing spoils (before ++ p ∷ []) rest)
          ≡ (if is_bad (choose us) then result_of_target p.value ∷ [] else result_of_target p.value ∷ rest_to_passing (λ vs. is_bad (choose vs)) us (results_of rest))
      at true us is later = rw is refl
      at false us is later = rw is (ap (λ rs. result_of_target p.value ∷ rs) later)

-- a choice by the targets that are seen
abbrev by_seen : List (Part Targeted) → Part Only
by_seen ps = record {
  value = chosen (choose (results_of ps)) (values ps);
  notes = notes_of ps ++ several (choose (results_of ps)) (first_target_status (values ps));
}

choice-seen : (ps : List (Part Targeted)) → choice_part ps ≡ by_seen (seen_choice ps)
choice-seen ps =
    ap (λ c. record { value = chosen c (values (seen_choice ps)); notes = notes_of (seen_choice ps) ++ several c (first_target_status (values (seen_choice ps))) })
    (seen_targets_enough (results_of ps) ∙ ap choose (sym (rest-results [] ps)))

choice-rests : {X : Type 0} (s t : World) (target : World → X → Part Targeted) (xs : List X) → AllRest s t target xs → Rests s t (λ u. choice_part (map (target u) xs))
choice-rests s t target xs each h =
    let ps = map (target s) xs in
    choice-seen (map (target t) xs)
    ∙ ap by_seen (rest-rests s t spoils target [] xs each (first_looks (Same s t) (notes_of (seen_choice ps)) (several (choose (results (values ps))) (first_target_status (values (seen_choice ps)))) h)) ∙ sym (choice-seen (map (target s) xs))

place-rests : {X : Type 0} (s t : World) (part : World → X → Part Answer) (xs : List X) → AllRest s t part xs → (place : ℕ) → Rests s t (λ u. get_or (map (part u) xs) place (without_look nothing))
place-rests s t part [] each place = λ h. refl
place-rests s t part (x ∷ xs) each zero = each.0
place-rests s t part (x ∷ xs) each (suc place) = place-rests s t part xs each.1 place

chosen-rests : {X : Type 0} (s t : World) (part : World → X → Part Answer) (xs : List X) → AllRest s t part xs → (choice : Only) → Rests s t (λ u. chosen_part (map (part u) xs) choice)
chosen-rests s t part xs each only.Nobody = λ h. refl
chosen-rests s t part xs each (only.Child place) = place-rests s t part xs each place
chosen-rests s t part xs each (only.Bad status) = λ h. refl

only_one-rests : {X : Type 0} (s t : World) (target : World → X → Part Targeted) (part : World → X → Part Answer) (xs : List X) → AllRest s t target xs → AllRest s t part xs
    → Rests s t (λ u. only_one (map (target u) xs) (map (part u) xs))
only_one-rests s t target part xs targets answers =
    and_then-rests s t (λ u. choice_part (map (target u) xs)) (λ u. chosen_part (map (part u) xs)) (choice-rests s t target xs targets) (chosen-rests s t part xs answers)

-- ---- policies, sets and references

module _ (s t : World) where
  -- a node rests on its look-ups, by its target alone and as a whole
  abbrev BothRest : (World → Node) → Type 0
  BothRest node = Rests s t (λ u. (node u).target) × ((path : List DocKey) → Rests s t (λ u. (node u).answer path))

  both-by : (p q : World → Node) → ((u : World) → p u ≡ q u) → BothRest q → BothRest p
  both-by p q e rests = (
    rests-by s t (λ u. (p u).target) (λ u. (q u).target) (λ u. ap (λ (n : Node). n.target) (e u)) rests.0,
    λ path. rests-by s t (λ u. (p u).answer path) (λ u. (q u).answer path) (λ u. ap (λ (n : Node). n.answer path) (e u)) (rests.1 path),
  )

  -- where each reference does
  module _ (refers : World → Reference → Node) (each : (r : Reference) → BothRest (λ u. refers u r)) where
    abbrev node : World → Child → Node
    node u = node_with u.looks u.request (refers u)

    abbrev set_node : World → PolicySet → Node
    set_node u = set_node_with u.looks u.request (refers u)

    abbrev ChildRests : Type 0
    ChildRests = (c : Child) × BothRest (λ u. node u c)

    abbrev SetRests : Type 0
    SetRests = (p : PolicySet) × BothRest (λ u. set_node u p)

    node_rolls : (x : Child-F Child PolicySet) (u : World) → node u (roll-Child x) ≡ child_step u.looks u.request (refers u) (map-Child Child PolicySet Node Node (node u) (set_node u) x)
    node_rolls x u = fold-roll-Child Node Node (child_step u.looks u.request (refers u)) (set_step u.looks u.request) x

    set_rolls : (x : PolicySet-F Child PolicySet) (u : World) → set_node u (roll-PolicySet x) ≡ set_step u.looks u.request (map-PolicySet Child PolicySet Node Node (node u) (set_node u) x)
    set_rolls x u = fold-roll-PolicySet Node Node (child_step u.looks u.request (refers u)) (set_step u.looks u.request) x

    node_layer : (y : Child-F ChildRests SetRests) → BothRest (λ u. node u (roll-Child (map-Child ChildRests SetRests Child PolicySet (λ e. e.0) (λ e. e.0) y)))
    node_layer (Child-F.Policy policy) = both-by _ _ (node_rolls (Child-F.Policy policy)) (within-rests s t (policy_key policy) (λ u. target_part u.looks u.request policy.target) (target-rests s t policy.target), λ path. policy-rests s t path policy)
    node_layer (Child-F.Set set) = both-by _ _ (node_rolls (Child-F.Set set.0)) set.1
    node_layer (Child-F.Reference reference) = both-by _ _ (node_rolls (Child-F.Reference reference)) (each reference)

    each_target : (ns : List ChildRests) → AllRest s t (λ u n. (node u n).target) (map (λ e. e.0) ns)
    each_target [] = tt
    each_target (n ∷ ns) = (n.1.0, each_target ns)

    each_child : (here : List DocKey) (ns : List ChildRests) → AllRest s t (λ u n. (node u n).answer here) (map (λ e. e.0) ns)
    each_child here [] = tt
    each_child here (n ∷ ns) = (n.1.1 here, each_child here ns)

    each_settled : (here : List DocKey) (ns : List ChildRests) → AllRest s t (λ u n. settled has_failed ((node u n).answer here)) (map (λ e. e.0) ns)
    each_settled here [] = tt
    each_settled here (n ∷ ns) = (settled-rests s t has_failed (λ u. (node u n.0).answer here) (n.1.1 here), each_settled here ns)

    children-rest : (algorithm : PolicyAlg) (here : List DocKey) (ns : List ChildRests) → Rests s t (λ u. children_part algorithm (map (node u) (map (λ e. e.0) ns)) here)
    children-rest (Shared algorithm) here ns =
        let children : List Child = map (λ e. e.0) ns in
        rests-by s t _ (λ u. combined here algorithm (map (λ n. settled has_failed ((node u n).answer here)) children)) (λ u. ap (combined here algorithm) (map-map (node u) (λ (n : Node). settled has_failed (n.answer here)) children))
        (combined-rests s t here algorithm (λ u n. settled has_failed ((node u n).answer here)) children (each_settled here ns))
    children-rest OnlyOne here ns =
        let children : List Child = map (λ e. e.0) ns in
        rests-by s t _ (λ u. only_one (map (λ n. (node u n).target) children) (map (λ n. (node u n).answer here) children))
        (λ u. ap (λ ts. only_one ts (map (λ (n : Node). n.answer here) (map (node u) children))) (map-map (node u) (λ (n : Node). n.target) children)
        ∙ ap (only_one (map (λ n. (node u n).target) children)) (map-map (node u) (λ (n : Node). n.answer here) children))
        (only_one-rests s t (λ u n. (node u n).target) (λ u n. (node u n).answer here) children (each_target ns) (each_child here ns))

    set_layer : (y : PolicySet-F ChildRests SetRests) → BothRest (λ u. set_node u (roll-PolicySet (map-PolicySet ChildRests SetRests Child PolicySet (λ e. e.0) (λ e. e.0) y)))
    set_layer y =
        both-by _ _ (set_rolls (map-PolicySet ChildRests SetRests Child PolicySet (λ e. e.0) (λ e. e.0) y)) (
          within-rests s t (set_key y.id y.version) (λ u. target_part u.looks u.request y.target) (target-rests s t y.target),
          λ path. element-rests s t (set_key y.id y.version) y.target (λ u. finished u.looks u.request [] y.given) (finished-rests s t [] y.given) (λ u. children_part y.algorithm (map (node u) (map (λ e. e.0) y.children)) (path ++ set_key y.id y.version ∷ []))
              (children-rest y.algorithm (path ++ set_key y.id y.version ∷ []) y.children),
        )

    node-rests : (c : Child) → BothRest (λ u. node u c)
    node-rests =
        ind-Child (λ c. BothRest (λ u. node u c)) (λ p. BothRest (λ u. set_node u p)) (λ x y is. subst (λ z. BothRest (λ u. node u (roll-Child z))) is (node_layer y))
        (λ x y is. subst (λ z. BothRest (λ u. set_node u (roll-PolicySet z))) is (set_layer y))

    found-rests : (r : Reference) (o : Option Tree) → BothRest (λ u. found_node r (node u) o)
    found-rests r None = (λ h. refl, λ path h. refl)
    found-rests r (Some document) = node-rests (as_child document)

    followed-rests : (r : Reference) → BothRest (λ u. followed u.looks u.request (refers u) r)
    followed-rests r = (
      λ h. ap (λ o. after_look (Ref r) (found_node r (node t) o).target) (sym h.0) ∙ ap (after_look (Ref r)) ((found-rests r (s.looks.document r)).0 h.1),
      λ path h. ap (λ o. after_look (Ref r) ((found_node r (node t) o).answer path)) (sym h.0) ∙ ap (after_look (Ref r)) ((found-rests r (s.looks.document r)).1 path h.1),
    )

  refer-rests : (hops : ℕ) (r : Reference) → BothRest (λ u. refer u.looks u.request hops r)
  refer-rests zero r = (λ h. refl, λ path h. refl)
  refer-rests (suc hops) r = followed-rests (λ u. refer u.looks u.request hops) (refer-rests hops) r

-- ---- the answer

root-rests : (s t : World) (root : Option Reference) → Rests s t (λ u. root_part u.looks u.request root)
root-rests s t None h = refl
root-rests s t (Some r) h =
    settled-rests s t has_failed (λ u. (followed u.looks u.request (refer u.looks u.request most_hops) r).answer [])
    ((followed-rests s t (λ u. refer u.looks u.request most_hops) (refer-rests s t most_hops) r).1 []) h

answer-rests : (s t : World) → Rests s t (λ u. answer_part u.looks u.request)
answer-rests s t h = ap (after_look Root) (ap (root_part t.looks t.request) (sym h.0) ∙ root-rests s t s.looks.root h.1)

-- where each question among notes finds the same, each note does
all_same : (s t : World) (ns : List Note) → AllByRecursion (FindsSame s.looks s.request t.looks t.request) (questions_in ns) → AllByRecursion (Same s t) ns
all_same s t [] h = tt
all_same s t (asks question ∷ ns) h = (h.0, all_same s t ns h.1)
all_same s t (fails cause ∷ ns) h = (tt, all_same s t ns h)
all_same s t (passed cause ∷ ns) h = (tt, all_same s t ns h)

-- where what is asked for an answer finds the same, the answer is the same, and so are what is asked and the causes
pub findings-rest : EqualFindingsGiveEqualAnswers
findings-rest s t q r h =
    let here : World = record { looks = s; request = q } in
    let there : World = record { looks = t; request = r } in
    let same : answer_part t r ≡ answer_part s q = answer-rests here there (all_same here there (answer_part s q).notes (by_recursion (FindsSame s q t r) (asked s q) h)) in
    (ap (λ p. p.value) same, (ap (λ p. questions_in p.notes) same, ap (λ p. told_once [] (causes_in p.notes)) same))

-- so it is with parts of an answer
part-rests : {A : Type 0} (s t : Looks) (q r : Request) (part : World → Part A) → Rests (record { looks = s; request = q }) (record { looks = t; request = r }) part
    → All (FindsSame s q t r) (questions_in (part (record { looks = s; request = q })).notes) → part (record { looks = t; request = r }) ≡ part (record { looks = s; request = q })
part-rests s t q r part rests h =
    let here : World = record { looks = s; request = q } in
    let there : World = record { looks = t; request = r } in
    rests (all_same here there (part here).notes (by_recursion (FindsSame s q t r) (questions_in (part here).notes) h))

pub targets-rest : EqualFindingsGiveEqualTargets
targets-rest s t q r target = part-rests s t q r (λ u. target_part u.looks u.request target) (target-rests (record { looks = s; request = q }) (record { looks = t; request = r }) target)

pub conditions-rest : EqualFindingsGiveEqualConditions
conditions-rest s t q r definitions condition =
    part-rests s t q r (λ u. condition_part u.looks u.request definitions condition) (condition-rests (record { looks = s; request = q }) (record { looks = t; request = r }) definitions condition)

-- and where each recorded look-up gives the same, for one request, so does what is asked
pub answers-rest : EqualLookUpsGiveEqualAnswers
answers-rest s t request h =
    let looks = (all_noted (IsSameLook s t) [] (looked_up s request) (by_recursion (IsSameLook s t) (recorded s request) h)).1 in
    let here : World = record { looks = s; request = request } in
    let there : World = record { looks = t; request = request } in
    let same : answer_part t request ≡ answer_part s request = answer-rests here there (all_same here there (answer_part s request).notes (all-find s t request (asked s request) looks)) in
    (ap (λ p. p.value) same, ap (λ p. noted [] (flat_map (keys_of request) (questions_in p.notes))) same)
