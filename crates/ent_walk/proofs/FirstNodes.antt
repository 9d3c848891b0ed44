-- An Indeterminate policy, set or answer has the status of its first cause that isn't passed over.
use Rattle.std.proofs.Common.{◌≡◌, ℕ, zero, suc, Bool, true, false, ◌||◌, List, [], ◌∷◌, ◌++◌, map, refl, sym, ap}
use Rattle.std.proofs.Common.{◌∙◌, subst, Option, Some, None}
use Rattle.std.specs.Prelude.{if◌then◌else◌, is_some, option_map}
use Rattle.std.specs.List.{AllByRecursion, Contains, list_any}
use Rattle.std.proofs.lemmas.List.Elements.{All-contains_itself}
use Rattle.ent_combine.specs.declared.outcome.PolicyAlg.{PolicyAlg}
use Rattle.ent_combine.specs.declared.outcome.PolicyAlg.TheVariants.{Shared, OnlyOne}
use Rattle.ent_policy.specs.Children.{as_child}
use Rattle.ent_policy.specs.declared.document.Child.{Child}
use Rattle.ent_policy.specs.declared.document.Child.TheOpen.{Child-F, PolicySet-F}
use Rattle.ent_policy.specs.declared.document.Child.TheFolds.{fold-roll-Child, fold-roll-PolicySet, ind-Child}
use Rattle.ent_policy.specs.declared.document.Child.TheFolds.{map-Child, map-PolicySet}
use Rattle.ent_policy.specs.declared.document.Child.TheViews.{roll-Child, roll-PolicySet}
use Rattle.ent_policy.specs.declared.document.PolicySet.{PolicySet}
use Rattle.ent_policy.specs.declared.document.Tree.{Tree}
use Rattle.ent_policy.specs.declared.key.DocKey.{DocKey}
use Rattle.ent_policy.specs.declared.key.Reference.{Reference}
use Rattle.ent_request.specs.declared.answer.Answer.{Answer}
use Rattle.ent_request.specs.declared.answer.Status.{Status}
use Rattle.ent_request.specs.declared.cause.Cause.{Cause}
use Rattle.ent_request.specs.declared.request.Request.{Request}
use Rattle.ent_request.specs.Causes.{same_cause, told_once, with_cause}
use Rattle.ent_request.specs.Looks.{Looks}
use Rattle.ent_request.specs.Note.{Note, asks, causes_in, fails, first_cause, passed}
use Rattle.ent_request.specs.Part.{Part, settled}
use Rattle.ent_walk.specs.Answer.{answer, answer_part, causes, most_hops, named, root_part}
use Rattle.ent_walk.specs.Given.{finished}
use Rattle.ent_walk.specs.Judged.{has_failed}
use Rattle.ent_walk.specs.Law.{DecidedNamesNoCause, IndeterminateHasItsCause}
use Rattle.ent_walk.specs.Node.{Node, child_step, children_part, followed, found_node, node_with, policy_key, refer}
use Rattle.ent_walk.specs.Node.{set_key, set_step}
use Rattle.ent_walk.specs.Target.{target_part}
use Rattle.ent_walk.specs.proofs_only.Node.{set_node_with}
use Rattle.ent_walk.proofs.FirstCauses.{AllTold, IsFirst, IsTold, of_answer, of_decision, of_target, target-told}
use Rattle.ent_walk.proofs.FirstGiven.{finished-told}
use Rattle.ent_request.proofs.Keys.{by_recursion}
use Rattle.ent_request.proofs.Lists.{first_looks, later_looks}
use Rattle.ent_request.proofs.Sames.{cause-Decides}
use Rattle.ent_walk.proofs.FirstChildren.{AllFirst, combined-first, element-first, only-first, policy-first}
use Rattle.ent_walk.proofs.FirstChildren.{answer-agree, settled-answer, status-within}

-- ---- policies, sets and references

-- a node of which the first cause tells the status, by its target alone and as a whole
abbrev NodeTold : Node → Type 0
NodeTold n = IsTold of_target n.target × ((path : List DocKey) → IsFirst of_answer (n.answer path))

children-told : (algorithm : PolicyAlg) (here : List DocKey) (ns : List Node) → AllByRecursion NodeTold ns
    → IsFirst of_answer (children_part algorithm ns here)
children-told (Shared algorithm) here ns each =
    combined-first here algorithm (map (λ (n : Node). settled has_failed (n.answer here)) ns) (told ns each) where
      told : (ns : List Node) → AllByRecursion NodeTold ns
          → AllTold of_answer (map (λ (n : Node). settled has_failed (n.answer here)) ns)
      told [] each = tt
      told (n ∷ ns) each = (settled-answer (n.answer here) (each.0.1 here), told ns each.1)
children-told OnlyOne here ns each =
    only-first (map (λ (n : Node). n.target) ns) (map (λ (n : Node). n.answer here) ns) (targets ns each)
    (answers ns each) where
      targets : (ns : List Node) → AllByRecursion NodeTold ns → AllTold of_target (map (λ (n : Node). n.target) ns)
      targets [] each = tt
      targets (n ∷ ns) each = (each.0.0, targets ns each.1)

      answers : (ns : List Node) → AllByRecursion NodeTold ns → AllFirst (map (λ (n : Node). n.answer here) ns)
      answers [] each = tt
      answers (n ∷ ns) each = (each.0.1 here, answers ns each.1)

module _ (looks : Looks) (request : Request) where
  module _ (refers : Reference → Node) (each : (r : Reference) → NodeTold (refers r)) where
    abbrev node : Child → Node
    node = node_with looks request refers

    abbrev set_node : PolicySet → Node
    set_node = set_node_with looks request refers

    abbrev ChildTold : Type 0
    ChildTold = (c : Child) × NodeTold (node c)

    abbrev SetTold : Type 0
    SetTold = (p : PolicySet) × NodeTold (set_node p)

    node-by : (m n : Node) → m ≡ n → NodeTold n → NodeTold m
    node-by m n e told = subst NodeTold (sym e) told

    node_rolls : (x : Child-F Child PolicySet)
        → node (roll-Child x) ≡ child_step looks request refers (map-Child Child PolicySet Node Node node set_node x)
    node_rolls x = fold-roll-Child Node Node (child_step looks request refers) (set_step looks request) x

    set_rolls : (x : PolicySet-F Child PolicySet)
        → set_node (roll-PolicySet x) ≡ set_step looks request (map-PolicySet Child PolicySet Node Node node set_node x)
    set_rolls x = fold-roll-PolicySet Node Node (child_step looks request refers) (set_step looks request) x

    child_layer : (y : Child-F ChildTold SetTold)
        → NodeTold (node (roll-Child (map-Child ChildTold SetTold Child PolicySet (λ e. e.0) (λ e. e.0) y)))
    child_layer (Child-F.Policy policy) =
        node-by _ _ (node_rolls (Child-F.Policy policy)) (
          status-within (policy_key policy) (target_part looks request policy.target).notes
              ∙ target-told looks request policy.target,
          λ path. policy-first looks request path policy,
        )
    child_layer (Child-F.Set set) = node-by _ _ (node_rolls (Child-F.Set set.0)) set.1
    child_layer (Child-F.Reference reference) =
        node-by _ _ (node_rolls (Child-F.Reference reference)) (each reference)

    all_told : (cs : List ChildTold) → AllByRecursion NodeTold (map node (map (λ e. e.0) cs))
    all_told [] = tt
    all_told (c ∷ cs) = (c.1, all_told cs)

    set_layer : (y : PolicySet-F ChildTold SetTold)
        → NodeTold (set_node (roll-PolicySet (map-PolicySet ChildTold SetTold Child PolicySet (λ e. e.0) (λ e. e.0) y)))
    set_layer y =
        let inside = map-PolicySet ChildTold SetTold Child PolicySet (λ e. e.0) (λ e. e.0) y in
        let nodes = map node (map (λ e. e.0) y.children) in
        let key = set_key y.id y.version in
        let target = target_part looks request y.target in
        node-by _ _ (set_rolls inside) (
          status-within key target.notes ∙ target-told looks request y.target,
          λ path. element-first (finished looks request [] y.given) (finished-told looks request [] y.given) key target
              (target-told looks request y.target) (children_part y.algorithm nodes (path ++ key ∷ []))
              (children-told y.algorithm (path ++ key ∷ []) nodes (all_told y.children)),
        )

    child-told : (c : Child) → NodeTold (node c)
    child-told =
        ind-Child (λ c. NodeTold (node c)) (λ p. NodeTold (set_node p))
        (λ x y is. subst (λ z. NodeTold (node (roll-Child z))) is (child_layer y))
        (λ x y is. subst (λ z. NodeTold (set_node (roll-PolicySet z))) is (set_layer y))

    found-told : (r : Reference) (o : Option Tree) → NodeTold (found_node r node o)
    found-told r None = (refl, λ path status e. e)
    found-told r (Some document) = child-told (as_child document)

    followed-told : (r : Reference) → NodeTold (followed looks request refers r)
    followed-told r = found-told r (looks.document r)

  refer-told : (hops : ℕ) (r : Reference) → NodeTold (refer looks request hops r)
  refer-told zero r = (refl, λ path status e. e)
  refer-told (suc hops) r = followed-told (refer looks request hops) (refer-told hops) r

  root-told : (root : Option Reference) → IsTold of_answer (root_part looks request root)
  root-told None = refl
  root-told (Some r) =
      settled-answer ((followed looks request (refer looks request most_hops) r).answer [])
      ((followed-told (refer looks request most_hops) (refer-told most_hops) r).1 [])

  answer-told : IsTold of_answer (answer_part looks request)
  answer-told = root-told looks.root

-- ---- causes that are told once

module _ (Q : Cause → Type 0) where
  any-all : (c : Cause) (xs : List Cause) → list_any (same_cause c) xs ≡ true → AllByRecursion Q xs → Q c
  any-all c [] is h = absurd (cc)
  any-all c (x ∷ xs) is h = at (same_cause c x) refl is (λ there. any-all c xs there h.1) where
    at : (b : Bool) → same_cause c x ≡ b → (b || list_any (same_cause c) xs) ≡ true
        → (list_any (same_cause c) xs ≡ true → Q c) → Q c
    at true e is later = subst Q (sym ((cause-Decides c x).0 e)) h.0
    at false e is later = later is

  with-all : (xs : List Cause) (c : Cause) → AllByRecursion Q (with_cause xs c) → AllByRecursion Q xs × Q c
  with-all xs c = at (list_any (same_cause c) xs) refl where
    at : (b : Bool) → list_any (same_cause c) xs ≡ b → AllByRecursion Q (if b then xs else xs ++ c ∷ [])
        → AllByRecursion Q xs × Q c
    at true is h = (h, any-all c xs is h)
    at false is h = (first_looks Q xs (c ∷ []) h, (later_looks Q xs (c ∷ []) h).0)

  once-all : (xs cs : List Cause) → AllByRecursion Q (told_once xs cs) → AllByRecursion Q xs × AllByRecursion Q cs
  once-all xs [] h = (h, tt)
  once-all xs (c ∷ cs) h =
      let rest = once-all (with_cause xs c) cs h in
      let first = with-all xs c rest.0 in
      (first.0, (first.1, rest.1))

  first-all : (ns : List Note) (c : Cause) → first_cause ns ≡ Some c → AllByRecursion Q (causes_in ns) → Q c
  first-all [] c e h = absurd (cc)
  first-all (asks question ∷ ns) c e h = first-all ns c e h
  first-all (fails cause ∷ ns) c e h = subst Q (let same : cause ≡ c = cc in same) h.0
  first-all (passed cause ∷ ns) c e h = first-all ns c e h.1

pub indeterminate_has_its_cause : IndeterminateHasItsCause
indeterminate_has_its_cause looks request kind is =
    at (named looks request) refl
    (answer-told looks request ∙ ap (λ d. of_decision d part.value.status) is) where
      part : Part Answer
      part = answer_part looks request

      told : List Cause
      told = causes looks request

      all : AllByRecursion (Contains told) (causes_in part.notes)
      all =
          (once-all (Contains told) [] (causes_in part.notes)
          (by_recursion (Contains told) told (All-contains_itself told))).1

      at : (o : Option Cause) → named looks request ≡ o → option_map (λ (c : Cause). c.status) o ≡ Some part.value.status
          → (cause : Cause) ×
          ((named looks request ≡ Some cause) × (Contains told cause × (cause.status ≡ part.value.status)))
      at None e h = absurd (cc)
      at (Some c) e h =
          (c, (e, (first-all (Contains told) part.notes c e all, (let same : c.status ≡ part.value.status = cc in same))))

pub decided_names_no_cause : DecidedNamesNoCause
decided_names_no_cause looks request decided =
    at (named looks request) (of_answer (answer looks request)) (sym decided ∙ answer-agree (answer looks request))
    (answer-told looks request) where
      at : (cause : Option Cause) (o : Option Status) → false ≡ is_some o
          → option_map (λ (c : Cause). c.status) cause ≡ o → cause ≡ None
      at None o none told = refl
      at (Some c) None none told = absurd (cc)
      at (Some c) (Some status) none told = absurd (cc)
