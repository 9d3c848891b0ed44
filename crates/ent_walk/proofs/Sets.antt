-- The equations of policy sets.
use Rattle.std.proofs.Common.{◌≡◌, ℕ, ◌≤◌, Bool, true, ◌&&◌, List, [], ◌∷◌, ◌++◌, length, map, nat_le, refl, sym, ap, subst, ◌∙◌, arith}
use Rattle.std.proofs.lemmas.Bool.Decides.{nat_tests}
use Rattle.std.proofs.lemmas.List.{length-map}
use Rattle.std.specs.List.{list_all}
use Rattle.ent_combine.specs.declared.outcome.PolicyAlg.TheVariants.{Shared, OnlyOne}
use Rattle.ent_combine.specs.declared.outcome.RuleAlg.{RuleAlg}
use Rattle.ent_policy.specs.Typing.{given_is_typed, target_is_typed}
use Rattle.ent_policy.specs.Typing as typing
use Rattle.ent_policy.specs.declared.document.Child.{Child}
use Rattle.ent_policy.specs.declared.document.Child.TheFolds.{fold_out-PolicySet}
use Rattle.ent_policy.specs.declared.document.PolicySet.{PolicySet}
use Rattle.ent_policy.specs.declared.key.DocKey.{DocKey}
use Rattle.ent_policy.specs.declared.key.Kind.TheVariants as kind
use Rattle.ent_request.specs.declared.request.Request.{Request}
use Rattle.ent_request.specs.Looks.{Looks}
use Rattle.ent_walk.specs.proofs_only.Hops.{children_combined, child_target, node_of, only_child, set_children, set_part}
use Rattle.ent_request.specs.Part.{settled}
use Rattle.ent_walk.specs.Given.{finished}
use Rattle.ent_walk.specs.Judged.{has_failed}
use Rattle.ent_walk.specs.Node.{Node, child_step, children_part, combined, element, refer, set_key, set_step}
use Rattle.ent_walk.specs.Only.{only_one}
use Rattle.ent_walk.specs.Target.{target_part}
use Rattle.ent_walk.specs.proofs_only.Typed.{fit_step, is_fit, set_is_fit}
use Rattle.ent_walk.proofs.Typing.{both_true}

pub map-map : {X Y Z : Type 0} (f : X → Y) (g : Y → Z) (xs : List X) → map g (map f xs) ≡ map (λ x. g (f x)) xs
map-map f g [] = refl
map-map f g (x ∷ xs) = ap (λ zs. g (f x) ∷ zs) (map-map f g xs)

-- the children of a set as they are evaluated
pub shared_children : (looks : Looks) (request : Request) (hops : ℕ) (algorithm : RuleAlg) (children : List Child) (here : List DocKey)
    → children_part (Shared algorithm) (map (node_of looks request hops) children) here ≡ children_combined looks request hops here algorithm children
shared_children looks request hops algorithm children here =
    ap (combined here algorithm) (map-map (node_of looks request hops) (λ (n : Node). settled has_failed (n.answer here)) children)

pub only_children : (looks : Looks) (request : Request) (hops : ℕ) (children : List Child) (here : List DocKey)
    → children_part OnlyOne (map (node_of looks request hops) children) here ≡ only_child looks request hops here children
only_children looks request hops children here =
    ap (λ ts. only_one ts (map (λ (n : Node). n.answer here) (map (node_of looks request hops) children))) (map-map (node_of looks request hops) (λ (n : Node). n.target) children)
    ∙ ap (only_one (map (child_target looks request hops) children)) (map-map (node_of looks request hops) (λ (n : Node). n.answer here) children)

pub set_out : (looks : Looks) (request : Request) (hops : ℕ) (path : List DocKey) (set : PolicySet) → set_part looks request hops path set ≡ element (set_key set.id set.version) (target_part looks request set.target) (set_children looks request hops path set) (finished looks request [] set.given)
set_out looks request hops path set = ap (λ (n : Node). n.answer path) (fold_out-PolicySet Node Node (child_step looks request (refer looks request hops)) (set_step looks request) set)

all_map : {X : Type 0} (p : X → Bool) (xs : List X) → list_all (λ b. b) (map p xs) ≡ list_all p xs
all_map p [] = refl
all_map p (x ∷ xs) = ap (λ b. p x && b) (all_map p xs)

few : (n : ℕ) → nat_le n 256 ≡ true → n ≤ 256
few n h = grind (arith, nat_tests)

-- the target and the children of a set that can be evaluated
pub set-fit : (set : PolicySet) → set_is_fit set ≡ true → (target_is_typed set.target ≡ true) × ((length set.children ≤ 256) × ((list_all is_fit set.children ≡ true) × (given_is_typed [] set.given ≡ true)))
set-fit set fit =
    let out : set_is_fit set ≡ (target_is_typed set.target && (nat_le (length (map is_fit set.children)) 256 && (list_all (λ b. b) (map is_fit set.children) && given_is_typed [] set.given))) = fold_out-PolicySet Bool Bool typing.child_step fit_step set in
    let parts = both_true (target_is_typed set.target) (nat_le (length (map is_fit set.children)) 256 && (list_all (λ b. b) (map is_fit set.children) && given_is_typed [] set.given)) (sym out ∙ fit) in
    let inside = both_true (nat_le (length (map is_fit set.children)) 256) (list_all (λ b. b) (map is_fit set.children) && given_is_typed [] set.given) parts.1 in
    let both = both_true (list_all (λ b. b) (map is_fit set.children)) (given_is_typed [] set.given) inside.1 in
    let short : length (map is_fit set.children) ≤ 256 = few (length (map is_fit set.children)) inside.0 in
    (parts.0, (subst (λ n. n ≤ 256) (length-map set.children is_fit) short, (sym (all_map is_fit set.children) ∙ both.0, both.1)))

-- the children of a set, by its algorithm
pub shared-part : (looks : Looks) (request : Request) (hops : ℕ) (path : List DocKey) (set : PolicySet) (algorithm : RuleAlg) (here : List DocKey) (children : List Child) → set.algorithm ≡ Shared algorithm
    → here ≡ path ++ record { kind = kind.PolicySet; id = set.id; version = set.version } ∷ [] → children ≡ set.children → children_combined looks request hops here algorithm children ≡ set_children looks request hops path set
shared-part looks request hops path set algorithm here children by here-is children-is =
    sym (shared_children looks request hops algorithm children here) ∙ ap (λ ts. children_part (Shared algorithm) (map (node_of looks request hops) ts) here) children-is
    ∙ ap (children_part (Shared algorithm) (map (node_of looks request hops) set.children)) here-is
    ∙ ap (λ a. children_part a (map (node_of looks request hops) set.children) (path ++ record { kind = kind.PolicySet; id = set.id; version = set.version } ∷ [])) (sym by)

pub only-part : (looks : Looks) (request : Request) (hops : ℕ) (path : List DocKey) (set : PolicySet) (here : List DocKey) (children : List Child) → set.algorithm ≡ OnlyOne
    → here ≡ path ++ record { kind = kind.PolicySet; id = set.id; version = set.version } ∷ [] → children ≡ set.children
    → only_child looks request hops here children ≡ set_children looks request hops path set
only-part looks request hops path set here children by here-is children-is =
    sym (only_children looks request hops children here) ∙ ap (λ ts. children_part OnlyOne (map (node_of looks request hops) ts) here) children-is
    ∙ ap (children_part OnlyOne (map (node_of looks request hops) set.children)) here-is
    ∙ ap (λ a. children_part a (map (node_of looks request hops) set.children) (path ++ record { kind = kind.PolicySet; id = set.id; version = set.version } ∷ [])) (sym by)
