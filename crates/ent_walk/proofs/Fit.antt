-- Documents that the checker passes can be evaluated.
use Rattle.std.specs.Prelude.{if◌then◌else◌}
use Rattle.std.proofs.Common.{◌≡◌, ℕ, Bool, true, false, ◌&&◌, List, [], ◌∷◌, length, map, nat_le, nat_lt, Option, Some, None, refl, sym, ap, subst, ◌∙◌, arith}
use Rattle.std.proofs.lemmas.Bool.Decides.{nat_tests}
use Rattle.std.proofs.lemmas.List.{length-map}
use Rattle.std.specs.List.{list_all}
use Rattle.ent_policy.proofs.Wholes.{neither}
use Rattle.ent_policy.specs.Check.{tree_fault, whole_fault}
use Rattle.ent_policy.specs.Children.{as_child}
use Rattle.ent_policy.specs.First.{first_of}
use Rattle.ent_policy.specs.Limits.{child_limits, given_fault, length_fault, limit_fault, name_fault, set_limits, target_fault}
use Rattle.ent_policy.specs.Typing.{child_step, given_is_typed, is_typed, set_step, target_is_typed}
use Rattle.ent_policy.specs.declared.document.Child.{Child}
use Rattle.ent_policy.specs.declared.document.Child.TheOpen.{Child-F, PolicySet-F}
use Rattle.ent_policy.specs.declared.document.Child.TheFolds.{fold-PolicySet, fold-roll-Child, fold-roll-PolicySet, ind-Child, map-Child, map-PolicySet}
use Rattle.ent_policy.specs.declared.document.Child.TheViews.{roll-Child, roll-PolicySet}
use Rattle.ent_policy.specs.declared.document.PolicySet.{PolicySet}
use Rattle.ent_policy.specs.declared.document.Tree.{Tree}
use Rattle.ent_policy.specs.declared.fault.DocFault.{DocFault}
use Rattle.ent_policy.specs.declared.fault.DocFault.TheVariants.{Size}
use Rattle.ent_walk.specs.proofs_only.Typed.{fit_step, is_fit, set_is_fit}
use Rattle.ent_walk.proofs.Typing.{both_true}

-- where a fault is none, its condition doesn't stand
pub none_there : (b : Bool) (f : DocFault) → (if b then Some f else None) ≡ None → b ≡ false
none_there true f h = absurd cc
none_there false f h = refl

few_at : (n : ℕ) → nat_lt 256 n ≡ false → nat_le n 256 ≡ true
few_at n h = grind (arith, nat_tests)

short : {A : Type 0} (xs : List A) → length_fault xs ≡ None → nat_le (length xs) 256 ≡ true
short xs h = few_at (length xs) (none_there (nat_lt 256 (length xs)) Size h)

abbrev ChildFits : Child → Type 0
ChildFits c = limit_fault c ≡ None → is_typed c ≡ true → is_fit c ≡ true

-- what the limits and types of a set are, as those of children
abbrev set_limit : PolicySet → Option DocFault
set_limit = fold-PolicySet (Option DocFault) (Option DocFault) child_limits set_limits

abbrev set_typed : PolicySet → Bool
set_typed = fold-PolicySet Bool Bool child_step set_step

abbrev SetFits : PolicySet → Type 0
SetFits s = set_limit s ≡ None → set_typed s ≡ true → set_is_fit s ≡ true

limit_roll : (x : Child-F Child PolicySet) → limit_fault (roll-Child x) ≡ child_limits (map-Child Child PolicySet (Option DocFault) (Option DocFault) limit_fault set_limit x)
limit_roll x = fold-roll-Child (Option DocFault) (Option DocFault) child_limits set_limits x

typed_roll : (x : Child-F Child PolicySet) → is_typed (roll-Child x) ≡ child_step (map-Child Child PolicySet Bool Bool is_typed set_typed x)
typed_roll x = fold-roll-Child Bool Bool child_step set_step x

fit_roll : (x : Child-F Child PolicySet) → is_fit (roll-Child x) ≡ child_step (map-Child Child PolicySet Bool Bool is_fit set_is_fit x)
fit_roll x = fold-roll-Child Bool Bool child_step fit_step x

child_layer : (y : Child-F ((c : Child) × ChildFits c) ((s : PolicySet) × SetFits s)) → ChildFits (roll-Child (map-Child ((c : Child) × ChildFits c) ((s : PolicySet) × SetFits s) Child PolicySet (λ e. e.0) (λ e. e.0) y))
child_layer (Child-F.Policy policy) limit typed = fit_roll (Child-F.Policy policy) ∙ sym (typed_roll (Child-F.Policy policy)) ∙ typed
child_layer (Child-F.Set set) limit typed = fit_roll (Child-F.Set set.0) ∙ set.1 (sym (limit_roll (Child-F.Set set.0)) ∙ limit) (sym (typed_roll (Child-F.Set set.0)) ∙ typed)
child_layer (Child-F.Reference reference) limit typed = fit_roll (Child-F.Reference reference)

all_fit : (cs : List ((c : Child) × ChildFits c)) → first_of (map limit_fault (map (λ e. e.0) cs)) ≡ None → list_all (λ b. b) (map is_typed (map (λ e. e.0) cs)) ≡ true → list_all (λ b. b) (map is_fit (map (λ e. e.0) cs)) ≡ true
all_fit [] limit typed = refl
all_fit (c ∷ cs) limit typed =
    let limits = neither (limit_fault c.0) (first_of (map limit_fault (map (λ e. e.0) cs))) limit in
    let types = both_true (is_typed c.0) (list_all (λ b. b) (map is_typed (map (λ e. e.0) cs))) typed in
    rw (c.1 limits.0 types.0) (all_fit cs limits.1 types.1)

all_true : (a b c d : Bool) → a ≡ true → b ≡ true → c ≡ true → d ≡ true → (a && (b && (c && d))) ≡ true
all_true a b c d first second third fourth = rw (first, second, third) fourth

set_layer : (y : PolicySet-F ((c : Child) × ChildFits c) ((s : PolicySet) × SetFits s)) → SetFits (roll-PolicySet (map-PolicySet ((c : Child) × ChildFits c) ((s : PolicySet) × SetFits s) Child PolicySet (λ e. e.0) (λ e. e.0) y))
set_layer y limit typed =
    let children : List Child = map (λ e. e.0) y.children in
    let x = map-PolicySet ((c : Child) × ChildFits c) ((s : PolicySet) × SetFits s) Child PolicySet (λ e. e.0) (λ e. e.0) y in
    let limits : first_of (name_fault y.id ∷ length_fault (map limit_fault children) ∷ target_fault y.target ∷ first_of (map limit_fault children) ∷ given_fault y.given ∷ []) ≡ None = sym (fold-roll-PolicySet (Option DocFault) (Option DocFault) child_limits set_limits x) ∙ limit in
    let named = neither (name_fault y.id) _ limits in
    let long = neither (length_fault (map limit_fault children)) _ named.1 in
    let target = neither (target_fault y.target) _ long.1 in
    let inside = neither (first_of (map limit_fault children)) _ target.1 in
    let types : (target_is_typed y.target && list_all (λ b. b) (map is_typed children) && given_is_typed [] y.given) ≡ true = sym (fold-roll-PolicySet Bool Bool child_step set_step x) ∙ typed in
    let both = both_true (target_is_typed y.target && list_all (λ b. b) (map is_typed children)) (given_is_typed [] y.given) types in
    let own = both_true (target_is_typed y.target) (list_all (λ b. b) (map is_typed children)) both.0 in
    let few : nat_le (length (map is_fit children)) 256 ≡ true = ap (λ n. nat_le n 256) (length-map children is_fit ∙ sym (length-map children limit_fault)) ∙ short (map limit_fault children) long.0 in
    fold-roll-PolicySet Bool Bool child_step fit_step x
    ∙ all_true (target_is_typed y.target) (nat_le (length (map is_fit children)) 256) (list_all (λ b. b) (map is_fit children)) (given_is_typed [] y.given) own.0 few (all_fit y.children inside.0 own.1) both.1

child_fits : (c : Child) → ChildFits c
child_fits = ind-Child ChildFits SetFits (λ x y is. subst (λ z. ChildFits (roll-Child z)) is (child_layer y)) (λ x y is. subst (λ z. SetFits (roll-PolicySet z)) is (set_layer y))

-- each expression has its type, and no set has more than 256 children
pub sound_fit : (t : Tree) → tree_fault t ≡ None → is_typed (as_child t) ≡ true → is_fit (as_child t) ≡ true
unfolding tree_fault
sound_fit t sound typed = child_fits (as_child t) (neither (limit_fault (as_child t)) (whole_fault (as_child t)) sound).0 typed
