-- Places that are put one behind the other.
use Rattle.std.proofs.Common.{◌≡◌, ℕ, suc, ◌<◌, ◌≤◌, ◌+◌, List, [], ◌∷◌, ◌++◌, length, get_or, drop, map, codes, refl, sym, ap, ◌∙◌, arith}
use mathlib.Core.List.{append_assoc}
use Rattle.std.specs.Prelude.{decimal}
use Rattle.std.specs.List.{flat_map}
use Rattle.std.proofs.lemmas.List.{append-nil, at_drop_all, at_drop_more}
use Rattle.serde_json.specs.Data.{Data}
use Rattle.serde_json.specs.View.{items_of}
use Rattle.lint_declared.specs.Compared.{Place, members_from}

-- ---- the members of a list

-- what is left is put behind what was
abbrev pub put_from : {J : Type 0} (content : J → Data) → List ℕ → List Place → List J → ℕ → List Place
put_from content pointer all ds n = all ++ members_from pointer n (items_of (map content (drop n ds)))

pub one_more_member : {J : Type 0} (content : J → Data) (pointer : List ℕ) (all : List Place) (ds : List J) (n : ℕ) (v : J) → n < length ds → v ≡ get_or ds n v
    → put_from content pointer all ds n ≡ put_from content pointer (all ++ (pointer ++ codes "/" ++ decimal n, content v) ∷ []) ds (n + 1)
one_more_member content pointer all ds n v lt is =
    let next : suc n ≡ n + 1 = omega arith in
    at_drop_more (λ xs. all ++ members_from pointer n (items_of (map content xs))) ds n v lt
    ∙ rw (← is, next) (sym (append_assoc all _ _))

pub no_more_members : {J : Type 0} (content : J → Data) (pointer : List ℕ) (all : List Place) (ds : List J) (n : ℕ) → length ds ≤ n → put_from content pointer all ds n ≡ all
no_more_members content pointer all ds n le = at_drop_all (λ xs. all ++ members_from pointer n (items_of (map content xs))) ds n le ∙ append-nil all

-- ---- what is put for each of some places

module _ {X : Type 0} (view : X → Place) (f : Place → List Place) (xs : List X) (i : ℕ) where
  -- what is left is put behind what was
  pub one_more_place : (x : X) (before after all : List Place) → i < length xs → x ≡ get_or xs i x → after ≡ before ++ f (view x)
      → before ++ flat_map f (map view (drop i xs)) ≡ all → after ++ flat_map f (map view (drop (i + 1) xs)) ≡ all
  one_more_place x before after all lt is put so_far =
      ap (λ ys. ys ++ flat_map f (map view (drop (i + 1) xs))) put
      ∙ append_assoc before (f (view x)) (flat_map f (map view (drop (i + 1) xs)))
      ∙ sym (at_drop_more (λ ys. before ++ flat_map f (map view ys)) xs i x lt ∙ rw (← is) refl)
      ∙ so_far

  pub no_more_places : (before all : List Place) → length xs ≤ i → before ++ flat_map f (map view (drop i xs)) ≡ all → before ≡ all
  no_more_places before all le so_far = sym (at_drop_all (λ ys. before ++ flat_map f (map view ys)) xs i le ∙ append-nil before) ∙ so_far
