-- How deep a document is, which bounds what it counts in a measure.
use denote.Param.Weighed.{most}
use Rattle.std.proofs.Common.{◌≡◌, ℕ, ◌+◌, ◌*◌, ◌≤◌, false, List, [], ◌∷◌, map, nat_lt, None, subst, rules, arith}
use Rattle.std.proofs.lemmas.Bool.Decides.{nat_tests}
use Rattle.ent_policy.proofs.Wholes.{neither}
use Rattle.ent_policy.specs.Check.{tree_fault, whole_fault}
use Rattle.ent_policy.specs.Children.{as_child}
use Rattle.ent_policy.specs.Depths.{child_depth_step, depth, exceeds_depth, greatest, has_deep, set_depth_step}
use Rattle.ent_policy.specs.Limits.{limit_fault}
use Rattle.ent_policy.specs.declared.document.Child.{Child, size-Child}
use Rattle.ent_policy.specs.declared.document.Child.TheVariants as children
use Rattle.ent_policy.specs.declared.document.Child.TheOpen.{Child-F, PolicySet-F}
use Rattle.ent_policy.specs.declared.document.Child.TheFolds.{fold-PolicySet, fold-roll-Child, fold-roll-PolicySet, ind-Child, map-Child, map-PolicySet}
use Rattle.ent_policy.specs.declared.document.Child.TheViews as views
use Rattle.ent_policy.specs.declared.document.Child.TheViews.{roll-Child, roll-PolicySet}
use Rattle.ent_policy.specs.declared.document.PolicySet.{PolicySet, size-PolicySet}
use Rattle.ent_policy.specs.declared.document.Tree.{Tree}
use Rattle.ent_policy.specs.declared.document.Tree.TheVariants as trees
use Rattle.ent_policy.specs.declared.fault.DocFault.TheVariants.{Depth}
use Rattle.ent_walk.proofs.Booleans.{or_second}
use Rattle.ent_walk.proofs.Fit.{none_there}

abbrev ChildIsSmall : Child → Type 0
ChildIsSmall c = size-Child c ≤ 2 * depth c

-- the depth of a set, as that of a child
abbrev set_depth : PolicySet → ℕ
set_depth = fold-PolicySet ℕ ℕ child_depth_step set_depth_step

abbrev SetIsSmall : PolicySet → Type 0
SetIsSmall s = size-PolicySet s + 1 ≤ 2 * set_depth s

depth_roll : (x : Child-F Child PolicySet) → depth (roll-Child x) ≡ child_depth_step (map-Child Child PolicySet ℕ ℕ depth set_depth x)
depth_roll x = fold-roll-Child ℕ ℕ child_depth_step set_depth_step x

child_layer : (y : Child-F ((c : Child) × ChildIsSmall c) ((s : PolicySet) × SetIsSmall s)) → ChildIsSmall (roll-Child (map-Child ((c : Child) × ChildIsSmall c) ((s : PolicySet) × SetIsSmall s) Child PolicySet (λ e. e.0) (λ e. e.0) y))
child_layer (Child-F.Policy policy) =
    let one : size-Child (roll-Child (Child-F.Policy policy)) ≡ 1 = search (rules, views.the_lemmas) in
    omega (arith, one, depth_roll (Child-F.Policy policy))
child_layer (Child-F.Set set) =
    let more : size-Child (roll-Child (Child-F.Set set.0)) ≡ size-PolicySet set.0 + 1 = search (rules, views.the_lemmas) in
    omega (arith, more, depth_roll (Child-F.Set set.0), set.1)
child_layer (Child-F.Reference reference) =
    let one : size-Child (roll-Child (Child-F.Reference reference)) ≡ 1 = search (rules, views.the_lemmas) in
    omega (arith, one, depth_roll (Child-F.Reference reference))

most_small : (cs : List ((c : Child) × ChildIsSmall c)) → most size-Child (map (λ e. e.0) cs) ≤ 2 * greatest (map depth (map (λ e. e.0) cs))
most_small [] = omega arith
most_small (c ∷ cs) = omega (arith, c.1, most_small cs)

set_layer : (y : PolicySet-F ((c : Child) × ChildIsSmall c) ((s : PolicySet) × SetIsSmall s)) → SetIsSmall (roll-PolicySet (map-PolicySet ((c : Child) × ChildIsSmall c) ((s : PolicySet) × SetIsSmall s) Child PolicySet (λ e. e.0) (λ e. e.0) y))
set_layer y =
    let x = map-PolicySet ((c : Child) × ChildIsSmall c) ((s : PolicySet) × SetIsSmall s) Child PolicySet (λ e. e.0) (λ e. e.0) y in
    let more : size-PolicySet (roll-PolicySet x) ≡ most size-Child x.children + 1 = search (rules, views.the_lemmas) in
    let deeper : set_depth (roll-PolicySet x) ≡ 1 + greatest (map depth x.children) = fold-roll-PolicySet ℕ ℕ child_depth_step set_depth_step x in
    omega (arith, more, deeper, most_small y.children)

child_small : (c : Child) → ChildIsSmall c
child_small = ind-Child ChildIsSmall SetIsSmall (λ x y is. subst (λ z. ChildIsSmall (roll-Child z)) is (child_layer y)) (λ x y is. subst (λ z. SetIsSmall (roll-PolicySet z)) is (set_layer y))

-- the size of a set that is a document: each set in it counts two
pub shallow_set : (t : Tree) (s : PolicySet) → t ≡ trees.Set s → depth (as_child t) ≤ 16 → size-PolicySet s ≤ 31
shallow_set t s is shallow =
    let within : depth (children.Set s) ≤ 16 = subst (λ u. depth (as_child u) ≤ 16) is shallow in
    let more : size-Child (children.Set s) ≡ size-PolicySet s + 1 = search (rules, views.the_lemmas) in
    omega (arith, more, child_small (children.Set s), within)

at_most : (n : ℕ) → nat_lt 16 n ≡ false → n ≤ 16
at_most n h = grind (arith, nat_tests)

-- no document nests deeper than 16
pub shallow_tree : (t : Tree) → tree_fault t ≡ None → depth (as_child t) ≤ 16
unfolding tree_fault
shallow_tree t sound =
    let whole = (neither (limit_fault (as_child t)) (whole_fault (as_child t)) sound).1 in
    let variables = neither _ _ whole in
    let size = neither _ _ variables.1 in
    let deep = neither _ _ size.1 in
    at_most (depth (as_child t)) (or_second (has_deep (as_child t)) (nat_lt 16 (depth (as_child t))) (none_there (exceeds_depth (as_child t)) Depth deep.0))
