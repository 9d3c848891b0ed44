-- Lists in blocks of one width, as a table has its cells in list order.
use Rattle.std.specs.Prelude.{ℕ, zero, suc, List, [], ◌++◌, take, drop, Option, None}
use Rattle.slab.specs.Slab.{Slab, get}
use Rattle.ent_cells.specs.Grid.{times}

module _ {A : Type 0} where
  -- xs with the n next ones of ys behind each of its first blocks of w members
  abbrev pub woven : ℕ → ℕ → ℕ → List A → List A → List A
  woven zero w n xs ys = xs ++ ys
  woven (suc blocks) w n xs ys = take w xs ++ (take n ys ++ woven blocks w n (drop w xs) (drop n ys))

  -- the n members from place o on of each of the first blocks
  abbrev pub taken_out : ℕ → ℕ → ℕ → ℕ → List A → List A
  taken_out zero w o n xs = []
  taken_out (suc blocks) w o n xs = take n (drop o (take w xs)) ++ taken_out blocks w o n (drop w xs)

  -- xs without them
  abbrev pub without : ℕ → ℕ → ℕ → ℕ → List A → List A
  without zero w o n xs = xs
  without (suc blocks) w o n xs = take o (take w xs) ++ (drop n (drop o (take w xs)) ++ without blocks w o n (drop w xs))

  -- what is there, if it was taken away so many times
  abbrev pub left_after : ℕ → Option A → Option A
  left_after zero o = o
  left_after (suc n) o = None

  -- what a slab has under a key once the values of these keys are gone
  abbrev pub left_of : Slab A → List ℕ → ℕ → Option A
  left_of s ks q = left_after (times q ks) (get s q)
