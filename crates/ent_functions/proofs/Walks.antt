-- Walks over a list that look for an element.
use Rattle.std.proofs.Common.{◌≡◌, ℕ, suc, ◌<◌, ◌+◌, Bool, true, false, List, [], ◌∷◌, ◌++◌, drop, length, get_or, drop-cons, add-one, refl, ap, sym, ◌∙◌}
use Rattle.std.specs.Prelude.{◌&&◌, ◌||◌, flat_map}
use Rattle.std.specs.List.{list_any, list_all}

here : {A : Type 0} (xs : List A) (i : ℕ) (x : A) → i < length xs → x ≡ get_or xs i x → drop i xs ≡ x ∷ drop (i + 1) xs
here xs i x below at = drop-cons xs i x below ∙ ap (λ y. y ∷ drop (suc i) xs) (sym at) ∙ ap (λ n. x ∷ drop n xs) (sym (add-one i))

-- the element at which the walk is passes the test
pub any_found : {A : Type 0} (p : A → Bool) (xs : List A) (i : ℕ) (x : A) → i < length xs → x ≡ get_or xs i x
    → list_any p (drop i xs) ≡ list_any p xs → p x ≡ true → true ≡ list_any p xs
any_found p xs i x below at left is =
    sym (ap (λ b. b || list_any p (drop (i + 1) xs)) is) ∙ sym (ap (list_any p) (here xs i x below at)) ∙ left

-- it doesn't, and the walk goes on
pub any_on : {A : Type 0} (p : A → Bool) (xs : List A) (i : ℕ) (x : A) → i < length xs → x ≡ get_or xs i x
    → list_any p (drop i xs) ≡ list_any p xs → p x ≡ false → list_any p (drop (i + 1) xs) ≡ list_any p xs
any_on p xs i x below at left is =
    sym (ap (λ b. b || list_any p (drop (i + 1) xs)) is) ∙ sym (ap (list_any p) (here xs i x below at)) ∙ left

-- the element at which the walk is fails the test
pub all_failed : {A : Type 0} (p : A → Bool) (xs : List A) (i : ℕ) (x : A) → i < length xs → x ≡ get_or xs i x
    → list_all p (drop i xs) ≡ list_all p xs → p x ≡ false → false ≡ list_all p xs
all_failed p xs i x below at left is =
    sym (ap (λ b. b && list_all p (drop (i + 1) xs)) is) ∙ sym (ap (list_all p) (here xs i x below at)) ∙ left

-- it doesn't, and the walk goes on
pub all_on : {A : Type 0} (p : A → Bool) (xs : List A) (i : ℕ) (x : A) → i < length xs → x ≡ get_or xs i x
    → list_all p (drop i xs) ≡ list_all p xs → p x ≡ true → list_all p (drop (i + 1) xs) ≡ list_all p xs
all_on p xs i x below at left is =
    sym (ap (λ b. b && list_all p (drop (i + 1) xs)) is) ∙ sym (ap (list_all p) (here xs i x below at)) ∙ left

or_assoc : (a b c : Bool) → ((a || b) || c) ≡ (a || (b || c))
or_assoc true b c = refl
or_assoc false b c = refl

and_assoc : (a b c : Bool) → ((a && b) && c) ≡ (a && (b && c))
and_assoc true b c = refl
and_assoc false b c = refl

any_append : {A : Type 0} (p : A → Bool) (xs ys : List A) → list_any p (xs ++ ys) ≡ (list_any p xs || list_any p ys)
any_append p [] ys = refl
any_append p (x ∷ xs) ys = ap (λ b. p x || b) (any_append p xs ys) ∙ sym (or_assoc (p x) (list_any p xs) (list_any p ys))

all_append : {A : Type 0} (p : A → Bool) (xs ys : List A) → list_all p (xs ++ ys) ≡ (list_all p xs && list_all p ys)
all_append p [] ys = refl
all_append p (x ∷ xs) ys = ap (λ b. p x && b) (all_append p xs ys) ∙ sym (and_assoc (p x) (list_all p xs) (list_all p ys))

-- a test of what all parts hold is a test of each part
pub any_parts : {A B : Type 0} (p : B → Bool) (f : A → List B) (xs : List A) → list_any (λ x. list_any p (f x)) xs ≡ list_any p (flat_map f xs)
any_parts p f [] = refl
any_parts p f (x ∷ xs) = ap (λ b. list_any p (f x) || b) (any_parts p f xs) ∙ sym (any_append p (f x) (flat_map f xs))

pub all_parts : {A B : Type 0} (p : B → Bool) (f : A → List B) (xs : List A) → list_all (λ x. list_all p (f x)) xs ≡ list_all p (flat_map f xs)
all_parts p f [] = refl
all_parts p f (x ∷ xs) = ap (λ b. list_all p (f x) && b) (all_parts p f xs) ∙ sym (all_append p (f x) (flat_map f xs))
