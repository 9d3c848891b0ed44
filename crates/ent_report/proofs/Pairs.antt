-- What holds of each member of a list, and of each with every later one.
use Rattle.std.proofs.Common.{◌≡◌, List, [], ◌∷◌, ◌++◌, map, Bool, true, false, cond}
use Rattle.std.specs.List.{AllByRecursion, IsDistinct, filter, flat_map}
use Rattle.std.specs.List.Sorted.{IsStrictlySortedBy}
use Rattle.std.specs.declared.cmp.Ordering.{Ordering}
use Rattle.std.specs.declared.cmp.Ordering.TheVariants.{Less}

-- ---- each member

module _ {X : Type 0} where
  pub all_weaker : (P Q : X → Type 0) → ((x : X) → P x → Q x) → (xs : List X) → AllByRecursion P xs → AllByRecursion Q xs
  all_weaker P Q h [] a = tt
  all_weaker P Q h (x ∷ xs) a = (h x a.0, all_weaker P Q h xs a.1)

  all_joined : (P : X → Type 0) (xs ys : List X) → AllByRecursion P xs → AllByRecursion P ys → AllByRecursion P (xs ++ ys)
  all_joined P [] ys a b = b
  all_joined P (x ∷ xs) ys a b = (a.0, all_joined P xs ys a.1 b)

  pub all_mapped : {J : Type 0} (P : X → Type 0) (f : J → X) → ((j : J) → P (f j)) → (js : List J) → AllByRecursion P (map f js)
  all_mapped P f h [] = tt
  all_mapped P f h (j ∷ js) = (h j, all_mapped P f h js)

  all_flat : {J : Type 0} (P : X → Type 0) (f : J → List X) (js : List J) → AllByRecursion (λ j. AllByRecursion P (f j)) js → AllByRecursion P (flat_map f js)
  all_flat P f [] a = tt
  all_flat P f (j ∷ js) a = all_joined P (f j) (flat_map f js) a.0 (all_flat P f js a.1)

  pub all_in_each : {J : Type 0} (P : X → Type 0) (f : J → List X) → ((j : J) → AllByRecursion P (f j)) → (js : List J) → AllByRecursion P (flat_map f js)
  all_in_each P f h [] = tt
  all_in_each P f h (j ∷ js) = all_joined P (f j) (flat_map f js) (h j) (all_in_each P f h js)

  pub all_passed : (P : X → Type 0) (p : X → Bool) (xs : List X) → AllByRecursion P xs → AllByRecursion P (filter p xs)
  all_passed P p [] a = tt
  all_passed P p (x ∷ xs) a = by (p x) (all_passed P p xs a.1)
    where
      by : (b : Bool) → AllByRecursion P (filter p xs) → AllByRecursion P (cond b (x ∷ filter p xs) (filter p xs))
      by true rest = (a.0, rest)
      by false rest = rest

-- ---- each with every later one

abbrev pub WithLater : {X : Type 0} → (X → X → Type 0) → List X → Type 0
WithLater P [] = Unit {0}
WithLater P (x ∷ xs) = AllByRecursion (P x) xs × WithLater P xs

module _ {X : Type 0} where
  pub later_weaker : (P Q : X → X → Type 0) → ((x y : X) → P x y → Q x y) → (xs : List X) → WithLater P xs → WithLater Q xs
  later_weaker P Q h [] a = tt
  later_weaker P Q h (x ∷ xs) a = (all_weaker (P x) (Q x) (h x) xs a.0, later_weaker P Q h xs a.1)

  pub later_joined : (P : X → X → Type 0) (xs ys : List X) → WithLater P xs → WithLater P ys → AllByRecursion (λ x. AllByRecursion (P x) ys) xs → WithLater P (xs ++ ys)
  later_joined P [] ys s t a = t
  later_joined P (x ∷ xs) ys s t a = (all_joined (P x) xs ys s.0 a.0, later_joined P xs ys s.1 t a.1)

  pub later_passed : (P : X → X → Type 0) (p : X → Bool) (xs : List X) → WithLater P xs → WithLater P (filter p xs)
  later_passed P p [] a = tt
  later_passed P p (x ∷ xs) a = by (p x) (later_passed P p xs a.1)
    where
      by : (b : Bool) → WithLater P (filter p xs) → WithLater P (cond b (x ∷ filter p xs) (filter p xs))
      by true rest = (all_passed (P x) p xs a.0, rest)
      by false rest = rest

-- a member, or a list of members, for each
module _ {J X : Type 0} (P : J → J → Type 0) (Q : X → X → Type 0) where
  each_later : (f : J → X) → ((i j : J) → P i j → Q (f i) (f j)) → (i : J) (js : List J) → AllByRecursion (P i) js → AllByRecursion (Q (f i)) (map f js)
  each_later f h i [] a = tt
  each_later f h i (j ∷ js) a = (h i j a.0, each_later f h i js a.1)

  pub later_mapped : (f : J → X) → ((i j : J) → P i j → Q (f i) (f j)) → (js : List J) → WithLater P js → WithLater Q (map f js)
  later_mapped f h [] a = tt
  later_mapped f h (j ∷ js) a = (each_later f h j js a.0, later_mapped f h js a.1)

  -- the members of the list for j are of it
  pub later_flat : (f : J → List X) (Of : J → X → Type 0) → ((j : J) → AllByRecursion (Of j) (f j)) → ((j : J) → WithLater Q (f j))
      → ((i j : J) (x y : X) → Of i x → Of j y → P i j → Q x y) → (js : List J) → WithLater P js → WithLater Q (flat_map f js)
  later_flat f Of of each apart [] a = tt
  later_flat f Of of each apart (j ∷ js) a =
      later_joined Q (f j) (flat_map f js) (each j) (later_flat f Of of each apart js a.1)
      (all_weaker (Of j) (λ x. AllByRecursion (Q x) (flat_map f js)) later (f j) (of j))
    where
      later : (x : X) → Of j x → AllByRecursion (Q x) (flat_map f js)
      later x o = all_flat (Q x) f js
          (all_weaker (P j) (λ i. AllByRecursion (Q x) (f i)) (λ i l. all_weaker (Of i) (Q x) (λ y p. apart j i x y o p l) (f i) (of i)) js a.0)

-- ---- the words of the library

module _ {X : Type 0} where
  pub from_ascending : (R : X → X → Ordering) (xs : List X) → IsStrictlySortedBy R xs → WithLater (λ x y. R x y ≡ Less) xs
  unfolding IsStrictlySortedBy
  from_ascending R [] s = tt
  from_ascending R (x ∷ xs) s = (s.0, from_ascending R xs s.1)

  pub distinct : (e : X → X → Bool) (xs : List X) → WithLater (λ x y. e x y ≡ false) xs → IsDistinct e xs
  unfolding IsDistinct
  distinct e [] a = tt
  distinct e (x ∷ xs) a = (a.0, distinct e xs a.1)

  pub from_distinct : (e : X → X → Bool) (xs : List X) → IsDistinct e xs → WithLater (λ x y. e x y ≡ false) xs
  unfolding IsDistinct
  from_distinct e [] s = tt
  from_distinct e (x ∷ xs) s = (s.0, from_distinct e xs s.1)
