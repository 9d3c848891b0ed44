use Rattle.std.proofs.Common.{◌≡◌, [], None, Some, arith, ap, rules, sym, subst, true, ◌+◌, ◌-◌, take, ◌∙◌}
use Rattle.std.proofs.lemmas.Result.{IfOk-weaker}
use Rattle.std.specs.Option.{option_copied}
use Rattle.ent_policy.specs.Children.{as_child}
use Rattle.ent_policy.specs.declared.document.Tree.{Tree}
use Rattle.ent_walk.proofs.Fit.{sound_fit}
use Rattle.ent_walk.proofs.Sets.{set-fit}
use Rattle.ent_walk.proofs.Shallow.{shallow_set, shallow_tree}
use Rattle.ent_walk.specs.proofs_only.Typed.{is_fit, set_is_fit}
use Rattle.memo_plan.specs.proofs_only.Entries.{AreEntries, child_tests, children_tests, no_given, reference_tests, set_tests, tree_tests}
use Rattle.memo_plan.proofs.Segments.{are_child, are_children, are_none, are_set, one_followed, set_fits}
use Rattle.memo_plan.proofs.entries.+entries.Goals as goal

pub child_entries-returns-in-Policy : goal.child_entries-returns-in-Policy
child_entries-returns-in-Policy g t c =
    let looks = g.L.LookUps.looks c.args.held.now in
    IfOk-weaker c.policy_entries.result _ _ (λ es are. subst (λ child. AreEntries looks (child_tests c.args.hops c.args.path.now child) es) (sym c.in-Policy.is) (are_child looks c.args.hops c.args.path.now c.in-Policy.policy es are)) (c.policy_entries.ensures looks)

pub children_entries-loop-child-preserved : goal.children_entries-loop-child-preserved
children_entries-loop-child-preserved g t c =
    let looks = g.L.LookUps.looks c.args.held.now in
    subst (AreEntries looks (children_tests c.args.hops c.args.path.now (take (c.loop-child.child-index + 1) c.args.children.now))) (sym c.in_ok-append.ensures.ok)
    (are_children looks c.args.hops c.args.path.now c.args.children.now c.loop-child.child-index c.child-item.result c.loop-child.entries c.in_ok-more.more
    c.loop-child-test.true c.child-item.is c.loop-child.invariant c.in_ok-more.ensures)

pub reference_entries-tree_entries-requires : goal.reference_entries-tree_entries-requires
reference_entries-tree_entries-requires g t c κs within =
    (omega arith, (within, (sound_fit c.tree.result.now c.tree.ensures.sound c.tree.ensures.typed, shallow_tree c.tree.result.now c.tree.ensures.sound)))

pub reference_entries-returns-in-None : goal.reference_entries-returns-in-None
reference_entries-returns-in-None g t c =
    let looks = g.L.LookUps.looks c.args.held.now in
    let found : looks.document c.args.reference.now ≡ None = sym c.document.ensures ∙ ap option_copied c.in-None.is in
    IfOk-weaker c.named.result _ _ (λ es is. subst (AreEntries looks (reference_tests c.args.hops c.args.path.now c.args.reference.now)) (sym is)
    (one_followed looks c.args.hops c.args.path.now c.args.reference.now None c.new-in-None.result (omega arith) found (subst (AreEntries looks (λ w. [])) (sym c.new-in-None.ensures) (are_none looks)))) c.named.ensures

pub reference_entries-returns-in_ok-copy-in-Some : goal.reference_entries-returns-in_ok-copy-in-Some
reference_entries-returns-in_ok-copy-in-Some g t c =
    let looks = g.L.LookUps.looks c.args.held.now in
    let copy = c.in_ok-copy-in-Some.copy in
    let below = c.in_ok-below-in-Some.below in
    let same : copy ≡ c.tree.result.now = c.in_ok-copy-in-Some.ensures ∙ c.tree-in-Some.ensures.same ∙ sym c.tree.ensures.same in
    let found : looks.document c.args.reference.now ≡ Some copy = sym c.document.ensures ∙ ap option_copied c.in-Some.is ∙ ap Some (sym c.tree.ensures.same ∙ sym same) in
    IfOk-weaker c.named-in-Some.result _ _ (λ es is. subst (AreEntries looks (reference_tests c.args.hops c.args.path.now c.args.reference.now)) (sym is)
    (one_followed looks c.args.hops c.args.path.now c.args.reference.now (Some copy) below (omega arith) found
    (subst (λ x. AreEntries looks (tree_tests (c.args.hops - 1) c.args.path.now x) below) (sym same) c.in_ok-below-in-Some.ensures))) c.named-in-Some.ensures

pub set_entries-set_children-requires : goal.set_entries-set_children-requires
set_entries-set_children-requires g t c κs within = (omega arith, (within, (set-fit c.args.set.now c.requires).1.1.0))

pub set_entries-returns : goal.set_entries-returns
set_entries-returns g t c =
    let looks = g.L.LookUps.looks c.args.held.now in
    let set = c.args.set.now in
    let none : set.given ≡ no_given = search rules in
    IfOk-weaker c.element.result _ _ (λ es is. subst (AreEntries looks (set_tests c.args.hops c.args.path.now set)) (sym is)
    (are_set looks c.args.hops c.args.path.now c.as_slice.result.now set c.in_ok-children.children none (set-fit set c.requires).0 (c.as_slice.ensures ∙ c.in_ok-here.ensures) c.in_ok-children.ensures)) c.element.ensures

pub tree_entries-set_entries-requires : goal.tree_entries-set_entries-requires
tree_entries-set_entries-requires g t c κs within =
    let fits : set_is_fit c.in-Set.set ≡ true = set_fits c.in-Set.set (ap (λ (x : Tree). is_fit (as_child x)) (sym c.in-Set.is) ∙ c.requires.fit) in
    let small = shallow_set c.args.tree.now c.in-Set.set c.in-Set.is c.requires.shallow in
    (omega (arith, small), (within, fits))

pub tree_entries-returns-in-Policy : goal.tree_entries-returns-in-Policy
tree_entries-returns-in-Policy g t c =
    let looks = g.L.LookUps.looks c.args.held.now in
    IfOk-weaker c.policy_entries.result _ _ (λ es are. subst (λ tree. AreEntries looks (tree_tests c.args.hops c.args.path.now tree) es) (sym c.in-Policy.is) (are_child looks c.args.hops c.args.path.now c.in-Policy.policy es are)) (c.policy_entries.ensures looks)
