-- The places in a list, and what is true of each part inside of a part.
use Rattle.std.proofs.Common.{◌≡◌, ℕ, zero, suc, ◌<◌, ◌+◌, List, [], ◌∷◌, ◌++◌, length, get_or, map, Some, refl, sym, ap, subst, arith}
use Rattle.std.specs.Prelude.{codes, decimal}
use Rattle.std.specs.List.{All, Contains, flat_map}
use Rattle.std.proofs.lemmas.List.Elements.{All-append, All-cons, All-head, All-nil, All-tail, Contains-append_left, Contains-append_right}
use Rattle.serde_json.specs.Data.{Data}
use Rattle.serde_json.specs.Find.{as_array}
use Rattle.serde_json.specs.View.{items_of}
use Rattle.lint_places.specs.Places.{Spot, at_numbers, listed, scope_of_member}
use Rattle.lint_places.specs.Told.{members_of}
use Rattle.lint_places.specs.declared.part.Part.{Part}

-- ---- lists of lists

pub All-flat_map : {X Y : Type 0} (P : Y → Type 0) (f : X → List Y) (xs : List X) → All (λ x. All P (f x)) xs → All P (flat_map f xs)
All-flat_map P f [] h = All-nil P
All-flat_map P f (x ∷ xs) h =
    All-append P (f x) (flat_map f xs) (All-head (λ z. All P (f z)) x xs h) (All-flat_map P f xs (All-tail (λ z. All P (f z)) x xs h))

pub Contains-flat_map : {X Y : Type 0} (f : X → List Y) (xs : List X) (x : X) (y : Y) → Contains xs x → Contains (f x) y → Contains (flat_map f xs) y
Contains-flat_map f [] x y h k = absurd (omega (arith, h.1))
Contains-flat_map f (z ∷ zs) x y (zero, lt, is) k =
    let same : x ≡ z = sym is in Contains-append_left (f z) (flat_map f zs) y (subst (λ w. Contains (f w) y) same k)
Contains-flat_map f (z ∷ zs) x y (suc i, lt, is) k =
    Contains-append_right (f z) (flat_map f zs) y (Contains-flat_map f zs x y (i, omega (arith, lt), is) k)

-- ---- members of a list

pub members_of-items_of : (ds : List Data) → members_of (items_of ds) ≡ ds
members_of-items_of [] = refl
members_of-items_of (d ∷ ds) = ap (λ xs. d ∷ xs) (members_of-items_of ds)

-- the members of an array
pub listed_is : (d : Data) (ds : List Data) → as_array d ≡ Some (items_of ds) → listed (Some d) ≡ ds
listed_is d ds h = rw h (members_of-items_of ds)

-- the place of a member
abbrev pub member_at : Spot → Part → List Data → ℕ → Data → Spot
member_at s p all n d = record { pointer = s.pointer ++ codes "/" ++ decimal n; part = p; scope = scope_of_member s.part s.scope all n; json = d }

pub All-at_numbers : (P : Spot → Type 0) (s : Spot) (p : Part) (all : List Data) (n : ℕ) (ds : List Data)
    → ((k : ℕ) (d : Data) → k < length ds → P (member_at s p all (n + k) (get_or ds k d))) → All P (at_numbers s p all n ds)
All-at_numbers P s p all n [] h = All-nil P
All-at_numbers P s p all n (d ∷ ds) h =
    let first : P (member_at s p all n d) = subst (λ k. P (member_at s p all k d)) (omega arith) (h 0 d (omega arith)) in
    All-cons P _ _ first (All-at_numbers P s p all (suc n) ds (λ k e lt. subst (λ j. P (member_at s p all j (get_or ds k e))) (omega arith) (h (suc k) e (omega (arith, lt)))))

pub Contains-at_numbers : (s : Spot) (p : Part) (all : List Data) (n : ℕ) (ds : List Data) (k : ℕ) (d : Data)
    → k < length ds → Contains (at_numbers s p all n ds) (member_at s p all (n + k) (get_or ds k d))
Contains-at_numbers s p all n [] k d lt = absurd (omega (arith, lt))
Contains-at_numbers s p all n (e ∷ ds) zero d lt = (0, omega arith, ap (λ j. member_at s p all j e) (omega arith))
Contains-at_numbers s p all n (e ∷ ds) (suc k) d lt =
    let inner = Contains-at_numbers s p all (suc n) ds k d (omega (arith, lt)) in
    let same : suc n + k ≡ n + suc k = omega arith in
    let moved = subst (λ j. Contains (at_numbers s p all (suc n) ds) (member_at s p all j (get_or ds k d))) same inner in
    (suc moved.0, omega (arith, moved.1), moved.2)

-- from the first member on
pub All-members : (P : Spot → Type 0) (s : Spot) (p : Part) (all ds : List Data)
    → ((k : ℕ) (d : Data) → k < length ds → P (member_at s p all k (get_or ds k d))) → All P (at_numbers s p all 0 ds)
All-members P s p all ds h =
    All-at_numbers P s p all 0 ds (λ k d lt. subst (λ j. P (member_at s p all j (get_or ds k d))) (omega arith) (h k d lt))

pub Contains-member : (s : Spot) (p : Part) (all ds : List Data) (k : ℕ) (d : Data)
    → k < length ds → Contains (at_numbers s p all 0 ds) (member_at s p all k (get_or ds k d))
Contains-member s p all ds k d lt =
    let same : 0 + k ≡ k = omega arith in
    subst (λ j. Contains (at_numbers s p all 0 ds) (member_at s p all j (get_or ds k d))) same (Contains-at_numbers s p all 0 ds k d lt)

-- ---- lists of values with content

-- some value of a list that has one at that place
pub fallback : {J : Type 0} (content : J → Data) (vs : List J) (k : ℕ) → k < length (map content vs) → J
fallback content [] k lt = absurd (omega (arith, lt))
fallback content (v ∷ vs) k lt = v

pub member_is : {J : Type 0} (content : J → Data) (vs : List J) (k : ℕ) (v : J) (d : Data) → k < length (map content vs) → content (get_or vs k v) ≡ get_or (map content vs) k d
member_is content [] k v d lt = absurd (omega (arith, lt))
member_is content (w ∷ vs) zero v d lt = refl
member_is content (w ∷ vs) (suc k) v d lt = member_is content vs k v d (omega (arith, lt))

pub length-map : {J : Type 0} (content : J → Data) (vs : List J) → length (map content vs) ≡ length vs
length-map content [] = refl
length-map content (v ∷ vs) = ap suc (length-map content vs)
