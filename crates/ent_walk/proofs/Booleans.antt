-- Tests of lists.
use Rattle.std.proofs.Common.{◌≡◌, Bool, true, false, ◌||◌, ◌&&◌, List, [], ◌∷◌, ◌++◌, refl, Some, None}
use Rattle.std.specs.Prelude.{not, find}
use Rattle.std.specs.List.{list_any}

pub and_first : (a b : Bool) → (a && b) ≡ true → a ≡ true
and_first true b h = refl
and_first false b h = absurd (cc)

pub and_second : (a b : Bool) → (a && b) ≡ true → b ≡ true
and_second true b h = h
and_second false b h = absurd (cc)

pub or_first : (a b : Bool) → (a || b) ≡ false → a ≡ false
or_first true b h = absurd (cc)
or_first false b h = refl

pub or_second : (a b : Bool) → (a || b) ≡ false → b ≡ false
or_second true b h = absurd (cc)
or_second false b h = h

pub not_true : (a : Bool) → not a ≡ true → a ≡ false
not_true true h = absurd (cc)
not_true false h = refl

-- a test that fails on all elements, where each element that passes a second test passes the first
pub any_weaker : {A : Type 0} (p q : A → Bool) → ((x : A) → p x ≡ true → q x ≡ true) → (xs : List A) → list_any q xs ≡ false → list_any p xs ≡ false
any_weaker p q implies [] none = refl
any_weaker p q implies (x ∷ xs) none = any_at (p x) (q x) p xs (implies x) (any_weaker p q implies xs (or_second (q x) (list_any q xs) none)) (or_first (q x) (list_any q xs) none) where
  any_at : {A : Type 0} (a b : Bool) (p : A → Bool) (xs : List A) → (a ≡ true → b ≡ true) → list_any p xs ≡ false → b ≡ false → (a || list_any p xs) ≡ false
  any_at true b p xs implies later is = absurd (let e : b ≡ true = implies refl in cc)
  any_at false b p xs implies later is = later

-- nothing is found where nothing passes
pub find_none : {A : Type 0} (p : A → Bool) (xs : List A) → list_any p xs ≡ false → find p xs ≡ None
find_none p [] none = refl
find_none p (x ∷ xs) none = rw (or_first (p x) (list_any p xs) none) (find_none p xs (or_second (p x) (list_any p xs) none))

-- what passes is found behind elements that don't
pub find_behind : {A : Type 0} (p : A → Bool) (ys : List A) (x : A) (zs : List A) → list_any p ys ≡ false → p x ≡ true → find p (ys ++ x ∷ zs) ≡ Some x
find_behind p [] x zs none is = rw is refl
find_behind p (y ∷ ys) x zs none is = rw (or_first (p y) (list_any p ys) none) (find_behind p ys x zs (or_second (p y) (list_any p ys) none) is)
