-- What an answer tells reads back, if what is held does.
use Rattle.std.proofs.Common.{◌≡◌, ℕ, zero, suc, Bool, true, false, List, [], ◌∷◌, ◌++◌, length, map}
use Rattle.std.proofs.Common.{Option, Some, None, codes, refl, sym, subst, IsUtf8}
use Rattle.std.specs.Prelude.{Result, Ok, Err, if◌then◌else◌}
use Rattle.std.specs.List.{AllByRecursion, flat_map}
use Rattle.std.proofs.lemmas.List.Folds.{flat_map-map}
use Rattle.serde_json.specs.Data.{Data}
use Rattle.ent_json.specs.Members.{filled_list}
use Rattle.ent_values.specs.declared.value.Value.{Value}
use Rattle.ent_combine.specs.declared.outcome.PolicyAlg.{PolicyAlg}
use Rattle.ent_combine.specs.declared.outcome.PolicyAlg.TheVariants.{Shared, OnlyOne}
use Rattle.ent_policy.specs.Children.{as_child}
use Rattle.ent_policy.specs.Values.{child_values, given_values, target_values, values_in_level, values_in_set}
use Rattle.ent_policy.specs.declared.document.Child.{Child}
use Rattle.ent_policy.specs.declared.document.Child.TheFolds.{fold-PolicySet, fold-roll-Child, fold-roll-PolicySet}
use Rattle.ent_policy.specs.declared.document.Child.TheFolds.{ind-Child, map-Child, map-PolicySet}
use Rattle.ent_policy.specs.declared.document.Child.TheOpen.{Child-F, PolicySet-F}
use Rattle.ent_policy.specs.declared.document.Child.TheViews.{roll-Child, roll-PolicySet}
use Rattle.ent_policy.specs.declared.document.Effect.{Effect}
use Rattle.ent_policy.specs.declared.document.Policy.{Policy}
use Rattle.ent_policy.specs.declared.document.PolicySet.{PolicySet}
use Rattle.ent_policy.specs.declared.document.Rule.{Rule}
use Rattle.ent_policy.specs.declared.document.Tree.{Tree}
use Rattle.ent_policy.specs.declared.expression.Expression.{Expression}
use Rattle.ent_policy.specs.declared.expression.VariableDefinition.{VariableDefinition}
use Rattle.ent_policy.specs.declared.given.AssignmentExpression.{AssignmentExpression}
use Rattle.ent_policy.specs.declared.given.GivenExpression.{GivenExpression}
use Rattle.ent_policy.specs.declared.given.GivenExpressions.{GivenExpressions}
use Rattle.ent_policy.specs.declared.key.DocKey.{DocKey}
use Rattle.ent_policy.specs.declared.key.Reference.{Reference}
use Rattle.ent_polform.specs.Written.{advice_written, child_written, obligations_written, set_with}
use Rattle.ent_polform.specs.Written.{child_step as written_step}
use Rattle.ent_walk.specs.Answer.{answer, most_hops, root_part}
use Rattle.ent_walk.specs.Given.{advice_after, assignment_part, effect_of, finished, given_in_turn, given_of}
use Rattle.ent_walk.specs.Given.{given_part, given_with, givens_part, goes_with, with_own}
use Rattle.ent_request.specs.Looks.{Looks}
use Rattle.ent_walk.specs.Judged.{has_failed}
use Rattle.ent_walk.specs.Node.{Node, child_step, children_part, followed, found_node}
use Rattle.ent_walk.specs.Node.{node_with, policy_key, policy_part, policy_rules, refer, set_key, set_step}
use Rattle.ent_request.specs.Part.{mapped, settled, without_look}
use Rattle.ent_walk.specs.Rule.{condition_part, decided, rule_part}
use Rattle.ent_request.specs.declared.answer.Answer.{Answer}
use Rattle.ent_request.specs.declared.answer.Status.{Status}
use Rattle.ent_request.specs.declared.given.Assignment.{Assignment}
use Rattle.ent_request.specs.declared.given.Given.{Given}
use Rattle.ent_request.specs.declared.request.Request.{Request}
use Rattle.law_restart.proofs.Utf8Data.{IfThere, IsUtf8Data}
use Rattle.law_compared.proofs.GoodExpressions.{AreGoodLooks, IsGoodRequest, IsGoodTree, meaning_good}
use Rattle.law_compared.proofs.GoodParts.{AreGoodGivens, AreSmall, IsGoodAssignment, IsGoodDefinition}
use Rattle.law_compared.proofs.GoodParts.{IsGoodExpression, IsGoodGiven, IsGoodPolicy, IsGoodRule, filled_all}
use Rattle.law_compared.proofs.GoodParts.{good_givens, good_policy, optional_parts, small_parts}
use Rattle.law_compared.proofs.GoodTold.{IfAll, IsGoodAnswer, IsToldAssignment, IsToldGiven}
use Rattle.law_compared.proofs.GoodTold.{IsToldPath, none_good}
use Rattle.law_compared.proofs.GoodTargets.{ComeGood, all_both, choice_good, combined_good, in_turn_all, target_good}

module _ (looks : Looks) (request : Request) (held : AreGoodLooks looks) (own : IsGoodRequest request) where
  module _ (ds : List VariableDefinition) (good : AllByRecursion IsGoodDefinition ds) where
    -- ---- obligations and advice

    assignments_good : (as_ : List AssignmentExpression) → AllByRecursion IsGoodAssignment as_
        → AllByRecursion (λ x. IfAll IsToldAssignment (assignment_part looks request ds x).value) as_
    assignments_good [] h = tt
    assignments_good (a ∷ as_) h = (
      (meaning_good looks request held own ds good (length ds) a.expression h.0.expression).assigns a h.0,
      assignments_good as_ h.1,
    )

    given_of_good : (id : List ℕ) (r : Result (List Assignment) Status) → IsUtf8 id → IfAll IsToldAssignment r
        → IfAll IsToldGiven (given_of id r)
    given_of_good id (Ok assignments) u h = (record { id = u; assignments = h }, tt)
    given_of_good id (Err status) u h = tt

    given_good : (effect : Effect) (g : GivenExpression) → IsGoodGiven g
        → IfAll IsToldGiven (given_part looks request ds effect g).value
    given_good effect g h = by (goes_with effect g.effect)
      where
        by : (b : Bool)
            → IfAll IsToldGiven
            (if b then mapped (given_of g.id) (given_in_turn (assignment_part looks request ds)
            g.assignments) else without_look (Ok [])).value
        by true = given_of_good g.id _ h.id
            (in_turn_all IsToldAssignment (assignment_part looks request ds) g.assignments
            (assignments_good g.assignments h.assignments))
        by false = tt

    each_given : (effect : Effect) (gs : List GivenExpression) → AllByRecursion IsGoodGiven gs
        → AllByRecursion (λ g. IfAll IsToldGiven (given_part looks request ds effect g).value) gs
    each_given effect [] h = tt
    each_given effect (g ∷ gs) h = (given_good effect g h.0, each_given effect gs h.1)

    givens_good : (effect : Effect) (gs : List GivenExpression) → AllByRecursion IsGoodGiven gs
        → IfAll IsToldGiven (givens_part looks request ds effect gs).value
    givens_good effect gs h = in_turn_all IsToldGiven (given_part looks request ds effect) gs (each_given effect gs h)

    with_own_good : (effect : Effect) (a : Answer) (obligations : List Given) (r : Result (List Given) Status)
        → IsGoodAnswer a → AllByRecursion IsToldGiven obligations → IfAll IsToldGiven r
        → IsGoodAnswer (with_own effect a obligations r)
    with_own_good effect a obligations (Ok advice) h g k = record {
      why = h.why;
      obligations = all_both IsToldGiven a.obligations obligations h.obligations g;
      advice = all_both IsToldGiven a.advice advice h.advice k;
    }
    with_own_good effect a obligations (Err status) h g k = none_good _ refl refl refl

    advice_good : (gs : GivenExpressions) (effect : Effect) (a : Answer) (r : Result (List Given) Status)
        → AreGoodGivens gs → IsGoodAnswer a → IfAll IsToldGiven r
        → IsGoodAnswer (advice_after looks request ds gs effect a r).value
    advice_good gs effect a (Ok obligations) v h g =
        with_own_good effect a obligations _ h g (givens_good effect gs.advice v.advice)
    advice_good gs effect a (Err status) v h g = none_good _ refl refl refl

    with_good : (gs : GivenExpressions) (o : Option Effect) (a : Answer) → AreGoodGivens gs → IsGoodAnswer a
        → IsGoodAnswer (given_with looks request ds gs o a).value
    with_good gs None a v h = h
    with_good gs (Some effect) a v h = advice_good gs effect a _ v h (givens_good effect gs.obligations v.obligations)

    finished_good : (gs : GivenExpressions) (a : Answer) → AreGoodGivens gs → IsGoodAnswer a
        → IsGoodAnswer (finished looks request ds gs a).value
    finished_good gs a v h = with_good gs (effect_of a.decision) a v h

    -- ---- rules

    condition_good : (path : List DocKey) (rule : Rule) (o : Option Expression) → IsToldPath path → IsUtf8 rule.id
        → IfThere IsGoodExpression o → IsGoodAnswer (decided path rule (condition_part looks request ds o).value)
    condition_good path rule None h u g =
        record { why = (record { path = h; rule = u }, tt); obligations = tt; advice = tt }
    condition_good path rule (Some e) h u g =
        (meaning_good looks request held own ds good (length ds) e g).decides path rule h u

    rule_good : (path : List DocKey) (rule : Rule) → IsToldPath path → IsGoodRule rule
        → IsGoodAnswer (rule_part looks request ds path rule).value
    rule_good path rule h v =
        (target_good looks request rule.target).rules (finished looks request ds rule.given)
        (condition_part looks request ds rule.condition) path rule
        (λ a g. finished_good rule.given a v.given g) (condition_good path rule rule.condition h v.id v.condition)

    rules_good : (path : List DocKey) (rules : List Rule) → IsToldPath path → AllByRecursion IsGoodRule rules
        → ComeGood (map (rule_part looks request ds path) rules)
    rules_good path [] h v = tt
    rules_good path (rule ∷ rules) h v = (rule_good path rule h v.0, rules_good path rules h v.1)

  -- ---- policies and sets

  longer : (path : List DocKey) (k : DocKey) → IsToldPath path → IsUtf8 k.id → IsToldPath (path ++ k ∷ [])
  longer path k h u = all_both (λ (x : DocKey). IsUtf8 x.id) path (k ∷ []) h (u, tt)

  policy_good : (path : List DocKey) (policy : Policy) → IsToldPath path → IsGoodPolicy policy
      → IsGoodAnswer (policy_part looks request path policy).value
  policy_good path policy h v =
      let here = path ++ policy_key policy ∷ [] in
      let on = longer path (policy_key policy) h v.id in
      (target_good looks request policy.target).children (finished looks request policy.variables policy.given)
      (settled has_failed (policy_rules looks request path policy))
      (λ a g. finished_good policy.variables v.variables policy.given a v.given g)
      (combined_good here policy.algorithm _ on (rules_good policy.variables v.variables here policy.rules on
      v.rules))

  -- on each path it comes to such an answer
  abbrev IsGoodNode : Node → Type 0
  IsGoodNode n = (path : List DocKey) → IsToldPath path → IsGoodAnswer (n.answer path).value

  module _ (refers : Reference → Node) (each : (r : Reference) → IsGoodNode (refers r)) where
    abbrev node : Child → Node
    node = node_with looks request refers

    abbrev set_node : PolicySet → Node
    set_node = fold-PolicySet Node Node (child_step looks request refers) (set_step looks request)

    abbrev set_values : PolicySet → List Value
    set_values = fold-PolicySet (List Value) (List Value) values_in_level values_in_set

    abbrev set_written : PolicySet → Data
    set_written = fold-PolicySet Data Data written_step set_with

    abbrev ChildComes : Child → Type 0
    ChildComes c = AreSmall (child_values c) → IsUtf8Data (child_written c) → IsGoodNode (node c)

    abbrev SetComes : PolicySet → Type 0
    SetComes s = AreSmall (set_values s) → IsUtf8Data (set_written s) → IsGoodNode (set_node s)

    abbrev GoodChild : Type 0
    GoodChild = (c : Child) × ChildComes c

    abbrev GoodSet : Type 0
    GoodSet = (s : PolicySet) × SetComes s

    abbrev all : List GoodChild → List Child
    all cs = map (λ (e : GoodChild). e.0) cs

    shown : (y : Child-F Child PolicySet)
        → IsGoodNode (child_step looks request refers (map-Child Child PolicySet Node Node node set_node y))
        → IsGoodNode (node (roll-Child y))
    shown y h = subst IsGoodNode
        (sym (fold-roll-Child Node Node (child_step looks request refers) (set_step looks request) y)) h

    -- the values in one level, and what is written of it
    values_here : (y : Child-F Child PolicySet) → AreSmall (child_values (roll-Child y))
        → AreSmall (values_in_level (map-Child Child PolicySet (List Value) (List Value) child_values set_values y))
    values_here y h = subst AreSmall (fold-roll-Child (List Value) (List Value) values_in_level values_in_set y) h

    written_here : (y : Child-F Child PolicySet) → IsUtf8Data (child_written (roll-Child y))
        → IsUtf8Data (written_step (map-Child Child PolicySet Data Data child_written set_written y))
    written_here y h = subst IsUtf8Data (fold-roll-Child Data Data written_step set_with y) h

    layer : (y : Child-F GoodChild GoodSet)
        → ChildComes
        (roll-Child (map-Child GoodChild GoodSet Child PolicySet (λ (e : GoodChild). e.0) (λ (e : GoodSet). e.0) y))
    layer (Child-F.Policy policy) small utf8 =
        let good = good_policy policy (values_here (Child-F.Policy policy) small)
        (written_here (Child-F.Policy policy) utf8).1 in
        shown (Child-F.Policy policy) (λ path h. policy_good path policy h good)
    layer (Child-F.Set set) small utf8 = shown (Child-F.Set set.0)
        (set.1 (values_here (Child-F.Set set.0) small) (written_here (Child-F.Set set.0) utf8).1)
    layer (Child-F.Reference reference) small utf8 = shown (Child-F.Reference reference) (each reference)

    all_come : (here : List DocKey) (cs : List GoodChild) → IsToldPath here
        → AreSmall (flat_map child_values (all cs)) → AllByRecursion IsUtf8Data (map child_written (all cs))
        → ComeGood (map (λ (n : Node). n.answer here) (map node (all cs)))
    all_come here [] h small utf8 = tt
    all_come here (c ∷ cs) h small utf8 = let both = small_parts (child_values c.0) (flat_map child_values (all cs))
        small in (c.1 both.0 utf8.0 here h, all_come here cs h both.1 utf8.1)

    settled_come : (here : List DocKey) (ns : List Node) → ComeGood (map (λ (n : Node). n.answer here) ns)
        → ComeGood (map (λ (n : Node). settled has_failed (n.answer here)) ns)
    settled_come here [] h = tt
    settled_come here (n ∷ ns) h = (h.0, settled_come here ns h.1)

    children_come : (algorithm : PolicyAlg) (here : List DocKey) (cs : List GoodChild) → IsToldPath here
        → AreSmall (flat_map child_values (all cs)) → AllByRecursion IsUtf8Data (map child_written (all cs))
        → IsGoodAnswer (children_part algorithm (map node (all cs)) here).value
    children_come (Shared algorithm) here cs h small utf8 =
        combined_good here algorithm _ h (settled_come here (map node (all cs)) (all_come here cs h small utf8))
    children_come OnlyOne here cs h small utf8 =
        choice_good (map (λ (n : Node). n.answer here) (map node (all cs))) _ _ (all_come here cs h small utf8)

    set_layer : (y : PolicySet-F GoodChild GoodSet)
        → SetComes
        (roll-PolicySet (map-PolicySet GoodChild GoodSet Child PolicySet (λ (e : GoodChild). e.0)
        (λ (e : GoodSet). e.0) y))
    set_layer y small utf8 =
        let x = map-PolicySet GoodChild GoodSet Child PolicySet (λ (e : GoodChild). e.0) (λ (e : GoodSet). e.0) y in
        let cs = all y.children in
        let here = subst AreSmall (fold-roll-PolicySet (List Value) (List Value) values_in_level values_in_set x)
        small in
        let one = small_parts (target_values y.target)
        (flat_map (λ l. l) (map child_values cs) ++ given_values y.given) here in
        let two = small_parts (flat_map (λ l. l) (map child_values cs)) (given_values y.given) one.1 in
        let inside = subst AreSmall (flat_map-map (λ l. l) child_values cs) two.0 in
        let object = subst IsUtf8Data (fold-roll-PolicySet Data Data written_step set_with x) utf8 in
        let advice = optional_parts (codes "AdviceExpressions") (advice_written y.given) _ object in
        let children = optional_parts (codes "Children") (filled_list (map child_written cs)) _ advice.1 in
        let obligations = optional_parts (codes "ObligationExpressions") (obligations_written y.given) _ children.1 in
        let given = good_givens y.given two.1 advice.0 obligations.0 in
        let id : IsUtf8 y.id = obligations.1.2.1 in
        subst IsGoodNode
        (sym (fold-roll-PolicySet Node Node (child_step looks request refers) (set_step looks request) x))
        (λ path h. let on = longer path (set_key y.id y.version) h id in
        (target_good looks request y.target).children (finished looks request [] y.given)
        (settled has_failed (children_part y.algorithm (map node cs) (path ++ set_key y.id y.version ∷ [])))
        (λ a g. finished_good [] tt y.given a given g)
        (children_come y.algorithm (path ++ set_key y.id y.version ∷ []) y.children on inside
        (filled_all (map child_written cs) children.0)))

    node_good : (c : Child) → ChildComes c
    node_good =
        ind-Child ChildComes SetComes (λ x y is. subst (λ z. ChildComes (roll-Child z)) is (layer y))
        (λ x y is. subst (λ z. SetComes (roll-PolicySet z)) is (set_layer y))

    found_good : (r : Reference) (o : Option Tree) → ((t : Tree) → o ≡ Some t → IsGoodTree t)
        → IsGoodNode (found_node r node o)
    found_good r None h path on = none_good _ refl refl refl
    found_good r (Some document) h path on =
        node_good (as_child document) (h document refl).small (h document refl).utf8 path on

    followed_good : (r : Reference) → IsGoodNode (followed looks request refers r)
    followed_good r path on = found_good r (looks.document r) (held.documents r) path on

  refer_good : (hops : ℕ) (r : Reference) → IsGoodNode (refer looks request hops r)
  refer_good zero r path on = none_good _ refl refl refl
  refer_good (suc hops) r path on = followed_good (refer looks request hops) (refer_good hops) r path on

  root_good : (root : Option Reference) → IsGoodAnswer (root_part looks request root).value
  root_good None = none_good _ refl refl refl
  root_good (Some r) = followed_good (refer looks request most_hops) (refer_good most_hops) r [] tt

  -- the answer to a request
  pub answer_good : IsGoodAnswer (answer looks request)
  answer_good = root_good looks.root
