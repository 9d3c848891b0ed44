-- A grid whose keys change their places.
use Rattle.std.proofs.Common.{◌≡◌, ℕ, zero, suc, ◌+◌, List, ◌++◌, map, take, drop, sym, ap, ◌∙◌, arith}
use Rattle.std.proofs.lemmas.List.{map-append, take-map, drop-map}
use Rattle.slab.specs.Slab.{Slab}
use Rattle.ent_cells.specs.Grid.{times, IsGrid, entries_of}
use Rattle.ent_cells.specs.Shape.{woven}
use Rattle.ent_cells.proofs.Grids.{filled, filled_inside, slot, grid_shown}
use Rattle.ent_cells.proofs.Shapes.{times-append}
use Rattle.ent_cells.proofs.Narrowed.{times_split}

times_woven : (q m w n : ℕ) (xs ys : List ℕ) → times q (woven m w n xs ys) ≡ times q xs + times q ys
times_woven q zero w n xs ys = times-append q xs ys
times_woven q (suc m) w n xs ys =
    omega (arith, times-append q (take w xs) (take n ys ++ woven m w n (drop w xs) (drop n ys)), times-append q (take n ys) (woven m w n (drop w xs) (drop n ys)), times_split q w xs, times_split q n ys, times_woven q m w n (drop w xs) (drop n ys))

pub woven-map : {A B : Type 0} (f : A → B) (m w n : ℕ) (xs ys : List A) → map f (woven m w n xs ys) ≡ woven m w n (map f xs) (map f ys)
woven-map f zero w n xs ys = map-append f xs ys
woven-map f (suc m) w n xs ys =
    map-append f (take w xs) (take n ys ++ woven m w n (drop w xs) (drop n ys))
    ∙ ap (λ zs. map f (take w xs) ++ zs) (map-append f (take n ys) (woven m w n (drop w xs) (drop n ys)))
    ∙ (λ j. sym (take-map f w xs) j ++ (sym (take-map f n ys) j ++ woven-map f m w n (drop w xs) (drop n ys) j))
    ∙ (λ j. take w (map f xs) ++ (take n (map f ys) ++ woven m w n (sym (drop-map f w xs) j) (sym (drop-map f n ys) j)))

module _ {A : Type 0} (s : Slab A) (ks : List ℕ) (start m w n : ℕ) (grid : IsGrid s ks) where
  pub woven_grid : IsGrid s (woven m w n (take start ks) (drop start ks))
  woven_grid q = times_woven q m w n (take start ks) (drop start ks) ∙ times_split q start ks ∙ grid q

  pub woven_values : entries_of s (woven m w n (take start ks) (drop start ks)) ≡ woven m w n (take start (entries_of s ks)) (drop start (entries_of s ks))
  woven_values =
      let new : List ℕ = woven m w n (take start ks) (drop start ks) in
      let old : List (ℕ × A) = entries_of s ks in
      let is : map filled old ≡ map (slot s) ks = grid_shown s ks grid in
      filled_inside (entries_of s new) (woven m w n (take start old) (drop start old))
      (grid_shown s new woven_grid
      ∙ woven-map (slot s) m w n (take start ks) (drop start ks)
      ∙ (λ j. woven m w n (sym (take-map (slot s) start ks) j) (sym (drop-map (slot s) start ks) j))
      ∙ (λ j. woven m w n (take start (sym is j)) (drop start (sym is j)))
      ∙ sym (woven-map filled m w n (take start old) (drop start old) ∙ (λ j. woven m w n (sym (take-map filled start old) j) (sym (drop-map filled start old) j))))
