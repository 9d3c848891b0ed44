-- One fault more is told.
use Rattle.std.proofs.Common.{◌≡◌, ℕ, zero, suc, List, [], ◌∷◌, ◌++◌, map, Bool, true, false, ◌||◌, refl, sym, subst, ◌∙◌, ap}
use Rattle.std.specs.Prelude.{bytes_eq}
use Rattle.std.specs.List.{All, AllByRecursion, Contains, IsDistinct, list_any}
use Rattle.std.proofs.lemmas.List.{map-append}
use Rattle.std.proofs.lemmas.List.Elements.{All-nil, All-cons, All-append}
use Rattle.serde_json.specs.Data.{Data}
use Rattle.ent_policy.specs.declared.fault.DocFault.{DocFault}
use Rattle.lint_places.specs.Faults.{AreFaults, FaultAt, IsFirst}
use Rattle.lint_places.specs.Places.{IsSmallest, Spot, StandsAt, StandsInside, inside, whole}
use Rattle.lint_places.specs.proofs_only.Walk.{IsWithin, Keeps}

-- ---- where spots stand

-- one level further inside
goes_on : (n : ℕ) (s t from : Spot) → StandsInside n s from → Contains (inside s) t → StandsInside (suc n) t from
goes_on zero s t from is c = (t, subst (λ (x : Spot). Contains (inside x) t) is c, refl)
goes_on (suc n) s t from is c = (is.0, is.1, goes_on n s t is.0 is.2 c)

-- what stands inside of a spot stands where that does
pub within_inside : (s t : Spot) (d : Data) → IsWithin s d → Contains (inside s) t → IsWithin t d
within_inside s t d within c = record { level = suc within.level; is_inside = goes_on within.level s t (whole d) within.is_inside c }

-- a document stands in itself
pub within_itself : (d : Data) → IsWithin (whole d) d
within_itself d = record { level = 0; is_inside = refl }

-- the smallest part that has a fault is where it stands
pub stands_there : (f : DocFault) (s : Spot) (d : Data) → IsWithin s d → IsSmallest f s s → StandsAt f s d
stands_there f s d within smallest = record { level = within.level; is_inside = within.is_inside; has_it = smallest.has_it; is_smallest = smallest.is_smallest }

-- ---- no two alike

all_with : {X : Type 0} (P : X → Type 0) (xs : List X) (y : X) → AllByRecursion P xs → P y → AllByRecursion P (xs ++ y ∷ [])
all_with P [] y h last = (last, tt)
all_with P (x ∷ xs) y h last = (h.0, all_with P xs y h.1 last)

distinct_with : (xs : List (List ℕ)) (y : List ℕ) → IsDistinct bytes_eq xs → AllByRecursion (λ x. bytes_eq x y ≡ false) xs → IsDistinct bytes_eq (xs ++ y ∷ [])
unfolding IsDistinct
distinct_with [] y h new = (tt, tt)
distinct_with (x ∷ xs) y h new = (all_with (λ z. bytes_eq x z ≡ false) xs y h.0 new.0, distinct_with xs y h.1 new.1)

new_at : {X : Type 0} (at : X → FaultAt) (y : List ℕ) (x : X) (xs : List X) (b : Bool) → bytes_eq (at x).1.pointer y ≡ b → (b || list_any (λ z. bytes_eq (at z).1.pointer y) xs) ≡ false
    → (list_any (λ z. bytes_eq (at z).1.pointer y) xs ≡ false → AllByRecursion (λ z. bytes_eq z y ≡ false) (map (λ t. t.1.pointer) (map at xs)))
    → AllByRecursion (λ z. bytes_eq z y ≡ false) (map (λ t. t.1.pointer) (map at (x ∷ xs)))
new_at at y x xs true is h more = absurd cc
new_at at y x xs false is h more = (is, more h)

-- none is told at the pointer
pub is_new : {X : Type 0} (at : X → FaultAt) (y : List ℕ) (xs : List X) → list_any (λ z. bytes_eq (at z).1.pointer y) xs ≡ false
    → AllByRecursion (λ z. bytes_eq z y ≡ false) (map (λ t. t.1.pointer) (map at xs))
is_new at y [] h = tt
is_new at y (x ∷ xs) h = new_at at y x xs (bytes_eq (at x).1.pointer y) refl h (is_new at y xs)

-- one is put last
pub added : {X : Type 0} (at : X → FaultAt) (xs ys : List X) (x : X) (t : FaultAt) → ys ≡ xs ++ x ∷ [] → at x ≡ t → map at ys ≡ map at xs ++ t ∷ []
added at xs ys x t is same = rw (is, map-append at xs (x ∷ []), same) refl

-- ---- one more

pub one_more : (s : Spot) (f : DocFault) (before : List FaultAt) → IsSmallest f s s → AllByRecursion (λ z. bytes_eq z s.pointer ≡ false) (map (λ t. t.1.pointer) before)
    → Keeps s before (before ++ (f, s) ∷ [])
one_more s f before smallest new = λ g d within are. record {
  first = are.first;
  others = are.others ++ (f, s) ∷ [];
  begins = rw are.begins refl;
  is_first = are.is_first;
  stand = All-append (λ t. StandsAt t.0 t.1 d) before ((f, s) ∷ []) are.stand (All-cons (λ t. StandsAt t.0 t.1 d) (f, s) [] (stands_there f s d within smallest) (All-nil _));
  apart = rw (map-append (λ (t : FaultAt). t.1.pointer) before ((f, s) ∷ [])) (distinct_with (map (λ t. t.1.pointer) before) s.pointer are.apart new);
}

-- ---- the first

pub only_first : (f : DocFault) (s : Spot) (d : Data) → StandsAt f s d → IsFirst f s d → AreFaults f d ((f, s) ∷ [])
unfolding IsDistinct
only_first f s d stands first = record {
  first = s;
  others = [];
  begins = refl;
  is_first = first;
  stand = All-cons (λ t. StandsAt t.0 t.1 d) (f, s) [] stands (All-nil _);
  apart = (tt, tt);
}
