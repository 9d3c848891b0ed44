-- The first of some that passes a test: where it stands, and how a loop comes to it.
use Rattle.std.proofs.Common.{◌≡◌, ℕ, suc, ◌+◌, ◌<◌, List, [], ◌∷◌, length, get_or, drop, map, cond, add-one, drop-cons, Bool, true, false, Option, Some, None, refl, sym, ◌∙◌, arith}
use Rattle.std.specs.List.{All, Contains, find, flat_map}
use Rattle.std.specs.Option.{option_or}
use Rattle.std.proofs.lemmas.List.Elements.{All-nil, All-cons}
use Rattle.std.proofs.lemmas.List.Folds.{find-append}
use Rattle.serde_json.specs.Data.{Data}
use Rattle.lint_places.specs.Parts.{Row}
use Rattle.lint_places.specs.Places.{Spot, at_numbers}
use Rattle.lint_places.specs.declared.part.Part.{Part}

-- ---- where it stands

contains_more : {X : Type 0} (x y : X) (xs : List X) → Contains xs x → Contains (y ∷ xs) x
contains_more x y xs c = (suc c.0, omega (arith, c.1), c.2)

found_at : {X : Type 0} (p : X → Bool) (y : X) (ys : List X) (x : X) (b : Bool) → p y ≡ b → cond b (Some y) (find p ys) ≡ Some x
    → (find p ys ≡ Some x → Contains ys x × (p x ≡ true)) → Contains (y ∷ ys) x × (p x ≡ true)
found_at p y ys x true is h more = let same : y ≡ x = cc in ((0, omega arith, same), rw (← same) is)
found_at p y ys x false is h more = let m = more h in (contains_more x y ys m.0, m.1)

pub found : {X : Type 0} (p : X → Bool) (xs : List X) (x : X) → find p xs ≡ Some x → Contains xs x × (p x ≡ true)
found p [] x h = absurd cc
found p (y ∷ ys) x h = found_at p y ys x (p y) refl h (λ q. found p ys x q)

none_at : {X : Type 0} (p : X → Bool) (y : X) (ys : List X) (b : Bool) → p y ≡ b → cond b (Some y) (find p ys) ≡ None
    → (find p ys ≡ None → All (λ x. p x ≡ false) ys) → All (λ x. p x ≡ false) (y ∷ ys)
none_at p y ys true is h more = absurd cc
none_at p y ys false is h more = All-cons (λ x. p x ≡ false) y ys is (more h)

pub none_found : {X : Type 0} (p : X → Bool) (xs : List X) → find p xs ≡ None → All (λ x. p x ≡ false) xs
none_found p [] h = All-nil (λ x. p x ≡ false)
none_found p (y ∷ ys) h = none_at p y ys (p y) refl h (λ q. none_found p ys q)

-- what is no value is none
pub none_of : {X : Type 0} (o : Option X) → ((x : X) → o ≡ Some x → ⊥) → o ≡ None
none_of None h = refl
none_of (Some x) h = absurd (h x refl)

-- ---- a loop that looks for it

-- what was found so far is nothing, and what is found behind is what is found at all
module _ {R : Type 0} (p : Spot → Bool) (at_row : Row → List Spot) (view : R → Row) (rows : List R) where
  -- what is found at the rows from the i-th on
  abbrev pub from_row : ℕ → Option Spot
  from_row i = find p (flat_map at_row (map view (drop i rows)))

  pub row_next : (i : ℕ) (r : R) → i < length rows → r ≡ get_or rows i r → from_row i ≡ option_or (find p (at_row (view r))) (from_row (i + 1))
  row_next i r lt here = rw (add-one, drop-cons rows i r, ← here) (find-append p (at_row (view r)) (flat_map at_row (map view (drop (suc i) rows))))

  -- at a row where it is found
  pub row_found : (i : ℕ) (r : R) (t : Spot) (whole : Option Spot) → i < length rows → r ≡ get_or rows i r → Some t ≡ find p (at_row (view r)) → from_row i ≡ whole → Some t ≡ whole
  row_found i r t whole lt here is so_far = let next = row_next i r lt here in let here_found : from_row i ≡ Some t = rw (next, ← is) refl in sym here_found ∙ so_far

  -- at a row where it isn't
  pub row_passed : (i : ℕ) (r : R) (whole : Option Spot) → i < length rows → r ≡ get_or rows i r → None ≡ find p (at_row (view r)) → from_row i ≡ whole → from_row (i + 1) ≡ whole
  row_passed i r whole lt here is so_far = let next = row_next i r lt here in let passed : from_row i ≡ from_row (i + 1) = rw (next, ← is) refl in sym passed ∙ so_far

module _ {J : Type 0} (p : Spot → Bool) (s : Spot) (part : Part) (all : List Data) (content : J → Data) (values : List J) where
  -- what is found in the members from the i-th on
  abbrev pub from_member : ℕ → Option Spot
  from_member i = find p (at_numbers s part all i (map content (drop i values)))

  pub member_next : (i : ℕ) (v : J) → i < length values → v ≡ get_or values i v → from_member i ≡ option_or (find p (at_numbers s part all i (content v ∷ []))) (from_member (i + 1))
  member_next i v lt here =
      rw (add-one, drop-cons values i v, ← here) (find-append p (at_numbers s part all i (content v ∷ [])) (at_numbers s part all (suc i) (map content (drop (suc i) values))))

  -- at a member that has it
  pub member_found : (i : ℕ) (v : J) (t : Spot) (whole : Option Spot) → i < length values → v ≡ get_or values i v → Some t ≡ find p (at_numbers s part all i (content v ∷ []))
      → from_member i ≡ whole → Some t ≡ whole
  member_found i v t whole lt here is so_far = let next = member_next i v lt here in let here_found : from_member i ≡ Some t = rw (next, ← is) refl in sym here_found ∙ so_far

  -- at a member that doesn't
  pub member_passed : (i : ℕ) (v : J) (whole : Option Spot) → i < length values → v ≡ get_or values i v → None ≡ find p (at_numbers s part all i (content v ∷ []))
      → from_member i ≡ whole → from_member (i + 1) ≡ whole
  member_passed i v whole lt here is so_far = let next = member_next i v lt here in let passed : from_member i ≡ from_member (i + 1) = rw (next, ← is) refl in sym passed ∙ so_far
