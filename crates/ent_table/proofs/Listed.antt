-- A request among all that are listed.
use Rattle.std.proofs.Common.{◌≡◌, ℕ, List, [], ◌∷◌, nat_eq, Bool, true, false, ◌||◌, map, refl, ap, ◌∙◌}
use Rattle.std.specs.Prelude.{◌&&◌}
use Rattle.std.specs.Cmp.Lexicographic.{bytes_decides, pointwise}
use Rattle.std.specs.List.{flat_map, list_any}
use Rattle.std.proofs.lemmas.Bool.{false≢true}
use Rattle.std.proofs.lemmas.List.Folds.{list_any-append}
use Rattle.ent_table.specs.Names.{Names, Triple, has_name, is_listed, triple_of, triples, with_actions, with_resources}

-- whether two requests are the same
abbrev pub same_triple : Triple → Triple → Bool
same_triple x y = pointwise nat_eq x.person y.person && (pointwise nat_eq x.action y.action && pointwise nat_eq x.resource y.resource)

-- ---- one of the elements

or_and : (a l b : Bool) → ((a && b) || (l && b)) ≡ ((a || l) && b)
or_and true true true = refl
or_and true false true = refl
or_and true true false = refl
or_and true false false = refl
or_and false l b = refl

and_true : (a b : Bool) → (a && b) ≡ true → (a ≡ true) × (b ≡ true)
and_true true b e = (refl, e)
and_true false b e = absurd (false≢true e)

any_same : {X : Type 0} (p q : X → Bool) → ((x : X) → p x ≡ q x) → (xs : List X) → list_any p xs ≡ list_any q xs
any_same p q same [] = refl
any_same p q same (x ∷ xs) = λ i. same x i || any_same p q same xs i

any_right : {X : Type 0} (p : X → Bool) (b : Bool) (xs : List X) → list_any (λ x. p x && b) xs ≡ (list_any p xs && b)
any_right p b [] = refl
any_right p b (x ∷ xs) = ap (λ l. (p x && b) || l) (any_right p b xs) ∙ or_and (p x) (list_any p xs) b

any_none : {X : Type 0} (xs : List X) → list_any (λ x. false) xs ≡ false
any_none [] = refl
any_none (x ∷ xs) = any_none xs

any_left : {X : Type 0} (p : X → Bool) (b : Bool) (xs : List X) → list_any (λ x. b && p x) xs ≡ (b && list_any p xs)
any_left p true xs = refl
any_left p false xs = any_none xs

any_map : {X Y : Type 0} (p : Y → Bool) (f : X → Y) (xs : List X) → list_any p (map f xs) ≡ list_any (λ x. p (f x)) xs
any_map p f [] = refl
any_map p f (x ∷ xs) = ap (λ l. p (f x) || l) (any_map p f xs)

any_flat : {X Y : Type 0} (p : Y → Bool) (f : X → List Y) (xs : List X) → list_any p (flat_map f xs) ≡ list_any (λ x. list_any p (f x)) xs
any_flat p f [] = refl
any_flat p f (x ∷ xs) = list_any-append p (f x) (flat_map f xs) ∙ ap (λ l. list_any p (f x) || l) (any_flat p f xs)

-- ---- a request among all

any_with_resources : (x : Triple) (p a : List ℕ) (rs : List (List ℕ)) → list_any (same_triple x) (with_resources p a rs) ≡ (pointwise nat_eq x.person p && (pointwise nat_eq x.action a && has_name x.resource rs))
any_with_resources x p a rs =
    any_map (same_triple x) (triple_of p a) rs
    ∙ any_left (λ r. pointwise nat_eq x.action a && pointwise nat_eq x.resource r) (pointwise nat_eq x.person p) rs
    ∙ ap (λ l. pointwise nat_eq x.person p && l) (any_left (pointwise nat_eq x.resource) (pointwise nat_eq x.action a) rs)

any_with_actions : (x : Triple) (p : List ℕ) (as_ rs : List (List ℕ)) → list_any (same_triple x) (with_actions p as_ rs) ≡ (pointwise nat_eq x.person p && (has_name x.action as_ && has_name x.resource rs))
any_with_actions x p as_ rs =
    any_flat (same_triple x) (λ a. with_resources p a rs) as_
    ∙ any_same _ (λ a. pointwise nat_eq x.person p && (pointwise nat_eq x.action a && has_name x.resource rs)) (λ a. any_with_resources x p a rs) as_
    ∙ any_left (λ a. pointwise nat_eq x.action a && has_name x.resource rs) (pointwise nat_eq x.person p) as_
    ∙ ap (λ l. pointwise nat_eq x.person p && l) (any_right (pointwise nat_eq x.action) (has_name x.resource rs) as_)

pub any_listed : (x : Triple) (n : Names) → list_any (same_triple x) (triples n) ≡ is_listed n x
any_listed x n =
    any_flat (same_triple x) (λ p. with_actions p n.actions n.resources) n.people
    ∙ any_same _ (λ p. pointwise nat_eq x.person p && (has_name x.action n.actions && has_name x.resource n.resources)) (λ p. any_with_actions x p n.actions n.resources) n.people
    ∙ any_right (pointwise nat_eq x.person) (has_name x.action n.actions && has_name x.resource n.resources) n.people

-- the same requests are equal
pub same_request : (x y : Triple) → same_triple x y ≡ true → x ≡ y
same_request x y e =
    let first = and_true _ _ e in
    let rest = and_true _ _ first.1 in
    λ i. record { person = (bytes_decides x.person y.person).0 first.0 i; action = (bytes_decides x.action y.action).0 rest.0 i; resource = (bytes_decides x.resource y.resource).0 rest.1 i }
