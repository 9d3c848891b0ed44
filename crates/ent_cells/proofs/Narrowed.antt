-- A grid of which some keys are cleared.
use Rattle.std.proofs.Common.{◌≡◌, ℕ, zero, suc, ◌+◌, ◌≤◌, List, [], ◌∷◌, ◌++◌, map, take, drop, Option, Some, None, IsSome, is_some, Bool, true, false, cond, refl, sym, ap, subst, ◌∙◌, arith, append_assoc, le_refl}
use Rattle.std.specs.List.{filter}
use Rattle.std.proofs.lemmas.List.{map-append, take-map, drop-map, take-append-drop}
use Rattle.std.proofs.lemmas.List.Elements.{filter-append}
use Rattle.slab.specs.Slab.{Slab, get}
use Rattle.ent_cells.specs.Grid.{times, IsGrid, entries_of}
use Rattle.ent_cells.specs.Shape.{taken_out, without, left_after, left_of}
use Rattle.ent_cells.proofs.Grids.{filled, filled_inside, slot, itself, AllThere, grid_within, all_there, shown, grid_shown}
use Rattle.ent_cells.proofs.Shapes.{times-append, left_none}

pub times_split : (q n : ℕ) (xs : List ℕ) → times q (take n xs) + times q (drop n xs) ≡ times q xs
times_split q n xs = sym (times-append q (take n xs) (drop n xs)) ∙ ap (times q) (take-append-drop n xs)

pub times_parts : (q m w o n : ℕ) (ks : List ℕ) → times q (without m w o n ks) + times q (taken_out m w o n ks) ≡ times q ks
times_parts q zero w o n ks = omega arith
times_parts q (suc m) w o n ks =
    let b : List ℕ = take w ks in
    let d : List ℕ = drop o b in
    omega (arith, times-append q (take o b) (drop n d ++ without m w o n (drop w ks)), times-append q (drop n d) (without m w o n (drop w ks)), times-append q (take n d) (taken_out m w o n (drop w ks)), times_split q o b, times_split q n d, times_split q w ks, times_parts q m w o n (drop w ks))

pub without-map : {A B : Type 0} (f : A → B) (m w o n : ℕ) (xs : List A) → map f (without m w o n xs) ≡ without m w o n (map f xs)
without-map {A} {B} f zero w o n xs = refl
without-map {A} {B} f (suc m) w o n xs =
    let b : List A = take w xs in
    map-append f (take o b) (drop n (drop o b) ++ without m w o n (drop w xs))
    ∙ ap (λ ys. map f (take o b) ++ ys) (map-append f (drop n (drop o b)) (without m w o n (drop w xs)))
    ∙ (λ j. sym (take-map f o b) j ++ (sym (drop-map f n (drop o b)) j ++ without-map f m w o n (drop w xs) j))
    ∙ (λ j. take o (sym (take-map f w xs) j) ++ (drop n (sym (drop-map f o b) j) ++ without m w o n (sym (drop-map f w xs) j)))
    ∙ (λ j. take o (take w (map f xs)) ++ (drop n (drop o (sym (take-map f w xs) j)) ++ without m w o n (drop w (map f xs))))

module _ {A : Type 0} where
  left_bits : (a b : ℕ) (o : Option A) → a + b ≡ cond (is_some o) 1 0 → a ≡ cond (is_some (left_after b o)) 1 0
  left_bits a zero o e = omega (arith, e)
  left_bits a (suc b) None e = absurd (omega (arith, e))
  left_bits a (suc b) (Some x) e = omega (arith, e)

  abbrev pub NoneThere : Slab A → List ℕ → Type 0
  NoneThere t [] = Unit {0}
  NoneThere t (q ∷ qs) = (get t q ≡ None) × NoneThere t qs

  there-append : (t : Slab A) (xs ys : List ℕ) → AllThere t (xs ++ ys) → AllThere t xs × AllThere t ys
  there-append t [] ys a = (tt, a)
  there-append t (x ∷ xs) ys a = let r = there-append t xs ys a.1 in ((a.0, r.0), r.1)

  none-append : (t : Slab A) (xs ys : List ℕ) → NoneThere t (xs ++ ys) → NoneThere t xs × NoneThere t ys
  none-append t [] ys a = (tt, a)
  none-append t (x ∷ xs) ys a = let r = none-append t xs ys a.1 in ((a.0, r.0), r.1)

  filter_there : (t : Slab A) (xs : List ℕ) → AllThere t xs → filter (λ q. is_some (get t q)) xs ≡ xs
  filter_there t [] a = refl
  filter_there t (x ∷ xs) a = λ j. cond (a.0 j) (x ∷ filter_there t xs a.1 j) (filter_there t xs a.1 j)

  filter_none : (t : Slab A) (xs : List ℕ) → NoneThere t xs → filter (λ q. is_some (get t q)) xs ≡ []
  filter_none t [] a = refl
  filter_none t (x ∷ xs) a =
      ap (λ (o : Option A). cond (is_some o) (x ∷ filter (λ q. is_some (get t q)) xs) (filter (λ q. is_some (get t q)) xs)) a.0 ∙ filter_none t xs a.1

  filter_blocks : (t : Slab A) (m w o n : ℕ) (ks : List ℕ) → AllThere t (without m w o n ks) → NoneThere t (taken_out m w o n ks) → filter (λ q. is_some (get t q)) ks ≡ without m w o n ks
  filter_blocks t zero w o n ks a z = filter_there t ks a
  filter_blocks t (suc m) w o n ks a z =
      let p : ℕ → Bool = λ q. is_some (get t q) in
      let b : List ℕ = take w ks in
      let d : List ℕ = drop o b in
      let rest : List ℕ = drop w ks in
      let a1 = there-append t (take o b) (drop n d ++ without m w o n rest) a in
      let a2 = there-append t (drop n d) (without m w o n rest) a1.1 in
      let z1 = none-append t (take n d) (taken_out m w o n rest) z in
      let tail : filter p rest ≡ without m w o n rest = filter_blocks t m w o n rest a2.1 z1.1 in
      let middle : filter p d ≡ drop n d =
      ap (filter p) (sym (take-append-drop n d)) ∙ filter-append p (take n d) (drop n d) ∙ (λ j. filter_none t (take n d) z1.0 j ++ filter_there t (drop n d) a2.0 j) in
      let block : filter p b ≡ take o b ++ drop n d =
      ap (filter p) (sym (take-append-drop o b)) ∙ filter-append p (take o b) d ∙ (λ j. filter_there t (take o b) a1.0 j ++ middle j) in
      ap (filter p) (sym (take-append-drop w ks)) ∙ filter-append p b rest ∙ (λ j. block j ++ tail j) ∙ append_assoc (take o b) (drop n d) (without m w o n rest)

  module _ (s t : Slab A) (gone : List ℕ) (cleared : (q : ℕ) → get t q ≡ left_of s gone q) where
    none_there : (xs : List ℕ) → ((q : ℕ) → times q xs ≤ times q gone) → NoneThere t xs
    none_there [] h = tt
    none_there (x ∷ xs) h =
        let one : 1 + times x xs ≤ times x gone = subst (λ (b : Bool). cond b 1 0 + times x xs ≤ times x gone) (itself x) (h x) in
        (cleared x ∙ left_none (times x gone) (get s x) (omega arith), none_there xs (λ q. let k = h q in omega (arith, k)))

    same_by : (n : ℕ) (o p : Option A) → p ≡ left_after n o → IsSome p → p ≡ o
    same_by zero o p e h = e
    same_by (suc n) o p e h = let bad : false ≡ true = sym (ap is_some e) ∙ h in absurd (cc)

    same_there : (xs : List ℕ) → AllThere t xs → map (slot t) xs ≡ map (slot s) xs
    same_there [] a = refl
    same_there (x ∷ xs) a = λ j. (x, same_by (times x gone) (get s x) (get t x) (cleared x) a.0 j) ∷ same_there xs a.1 j

  module _ (s t : Slab A) (m w o n : ℕ) (ks : List ℕ) (grid : IsGrid s ks) (cleared : (q : ℕ) → get t q ≡ left_of s (taken_out m w o n ks) q) where
    pub narrow_grid : IsGrid t (without m w o n ks)
    narrow_grid q =
        left_bits (times q (without m w o n ks)) (times q (taken_out m w o n ks)) (get s q) (times_parts q m w o n ks ∙ grid q)
        ∙ ap (λ (p : Option A). cond (is_some p) 1 0) (sym (cleared q))

    all : AllThere t (without m w o n ks)
    all = all_there t (without m w o n ks) (grid_within t (without m w o n ks) narrow_grid)

    pub narrow_filter : filter (λ q. is_some (get t q)) ks ≡ without m w o n ks
    narrow_filter = filter_blocks t m w o n ks all (none_there s t (taken_out m w o n ks) cleared (taken_out m w o n ks) (λ q. le_refl (times q (taken_out m w o n ks))))

    pub narrow_values : entries_of t (without m w o n ks) ≡ without m w o n (entries_of s ks)
    narrow_values =
        filled_inside (entries_of t (without m w o n ks)) (without m w o n (entries_of s ks))
        (shown t (without m w o n ks) all ∙ same_there s t (taken_out m w o n ks) cleared (without m w o n ks) all
        ∙ without-map (slot s) m w o n ks
        ∙ sym (without-map filled m w o n (entries_of s ks) ∙ ap (without m w o n) (grid_shown s ks grid)))
