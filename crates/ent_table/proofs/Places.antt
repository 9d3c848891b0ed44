-- Where a request stands in list order.
use Rattle.std.proofs.Common.{◌≡◌, ℕ, zero, suc, ◌+◌, ◌*◌, List, [], ◌∷◌, ◌++◌, length, nat_eq, Option, Some, sym, ap, ◌∙◌, arith, length-append}
use Rattle.std.specs.Prelude.{slice_get}
use Rattle.std.specs.Option.{option_map}
use Rattle.std.proofs.Common.{get_or}
use Rattle.std.specs.List.{flat_map, position}
use Rattle.std.specs.Cmp.Lexicographic.{pointwise, bytes_decides}
use Rattle.std.proofs.lemmas.List.{length-map}
use Rattle.std.proofs.lemmas.List.Quantifiers.{position-Some}
use Rattle.std.proofs.lemmas.Option.{slice_get-get_or, slice_get-map}
use Rattle.ent_table.specs.Names.{triple_of, with_resources, with_actions, all_triples}

get_left : {A : Type 0} (xs ys : List A) (n : ℕ) (y : A) → slice_get xs n ≡ Some y → slice_get (xs ++ ys) n ≡ Some y
get_left [] ys n y e = cc
get_left (x ∷ xs) ys zero y e = e
get_left (x ∷ xs) ys (suc n) y e = get_left xs ys n y e

get_right : {A : Type 0} (xs ys : List A) (n m : ℕ) → m ≡ length xs + n → slice_get (xs ++ ys) m ≡ slice_get ys n
get_right [] ys n m e = ap (slice_get ys) (omega (arith, e))
get_right (x ∷ xs) ys n zero e = absurd (omega (arith, e))
get_right (x ∷ xs) ys n (suc m) e = get_right xs ys n m (omega (arith, e))

-- an element of the rows of one width
pub place_in : {A B : Type 0} (f : A → List B) (w : ℕ) → ((x : A) → length (f x) ≡ w) → (xs : List A) (i j : ℕ) (x : A) (y : B) → slice_get xs i ≡ Some x → slice_get (f x) j ≡ Some y → slice_get (flat_map f xs) (i * w + j) ≡ Some y
place_in f w all [] i j x y e h = cc
place_in f w all (z ∷ xs) zero j x y e h =
    let same : z ≡ x = cc in
    let n : 0 * w + j ≡ j = omega arith in
    ap (slice_get (f z ++ flat_map f xs)) n ∙ get_left (f z) (flat_map f xs) j y (ap (λ v. slice_get (f v) j) same ∙ h)
place_in f w all (z ∷ xs) (suc i) j x y e h =
    get_right (f z) (flat_map f xs) (i * w + j) (suc i * w + j) (omega (arith, all z)) ∙ place_in f w all xs i j x y e h

pub length-with_actions : (person : List ℕ) (resources actions : List (List ℕ)) → length (with_actions person actions resources) ≡ length actions * length resources
length-with_actions person resources [] = omega arith
length-with_actions person resources (a ∷ actions) =
    omega (arith, length-append (with_resources person a resources) (with_actions person actions resources), length-map resources (triple_of person a), length-with_actions person resources actions)

pub length-all_triples : (actions resources people : List (List ℕ)) → length (all_triples people actions resources) ≡ length people * (length actions * length resources)
length-all_triples actions resources [] = omega arith
length-all_triples actions resources (p ∷ people) =
    grind (arith, length-append (with_actions p actions resources) (all_triples people actions resources), length-with_actions p resources actions, length-all_triples actions resources people)

-- a request at its place
pub triple_at : (people actions resources : List (List ℕ)) (i j k : ℕ) (p a r : List ℕ) → slice_get people i ≡ Some p → slice_get actions j ≡ Some a → slice_get resources k ≡ Some r
    → slice_get (all_triples people actions resources) ((i * length actions + j) * length resources + k) ≡ Some (triple_of p a r)
triple_at people actions resources i j k p a r e f g =
    let inner : slice_get (with_resources p a resources) k ≡ Some (triple_of p a r) = slice_get-map (triple_of p a) resources k ∙ ap (λ (o : Option (List ℕ)). option_map (triple_of p a) o) g in
    let middle : slice_get (with_actions p actions resources) (j * length resources + k) ≡ Some (triple_of p a r) =
    place_in (λ x. with_resources p x resources) (length resources) (λ x. length-map resources (triple_of p x)) actions j k a (triple_of p a r) f inner in
    let n : (i * length actions + j) * length resources + k ≡ i * (length actions * length resources) + (j * length resources + k) = grind arith in
    ap (slice_get (all_triples people actions resources)) n
    ∙ place_in (λ x. with_actions x actions resources) (length actions * length resources) (λ x. length-with_actions x resources actions) people i (j * length resources + k) p (triple_of p a r) e middle

-- a name that was found at a place
pub name_at : (name : List ℕ) (names : List (List ℕ)) (i : ℕ) → position (pointwise nat_eq name) names ≡ Some i → slice_get names i ≡ Some name
name_at name names i e =
    let h = position-Some (pointwise nat_eq name) names i [] e in
    slice_get-get_or names i [] h.0 ∙ ap (λ (x : List ℕ). Some x) (sym ((bytes_decides name (get_or names i [])).0 h.1))
