-- Cells under keys that last, each beside what is to be said of it next, if an edit has that ready.
use Rattle.std.specs.Prelude.{◌≡◌, ℕ, List, map, Option, Some, None}
use Rattle.slab.specs.Slab.{Slab, get}
use Rattle.ent_eval.specs.Evaluator.{Evaluator}
use Rattle.ent_cells.specs.Cell.{Kept, Said}
use Rattle.ent_cells.specs.Grid.{IsGrid, entries_of, values}

-- a cell, and what is to be said of its request next, if that is ready
pub record Entry : Type 0 where
  pub kept : Kept
  pub next : Option Said

-- cells under their keys, and the evaluator of their requests
pub record Stored : Type 0 where
  pub cells : Slab Entry
  pub evaluator : Evaluator

-- nothing is ready of any cell
abbrev pub AreFree : Slab Entry → Type 0
AreFree s = (c : ℕ) (e : Entry) → get s c ≡ Some e → e.next ≡ None

-- ---- in list order

-- the cells under some keys, in their order
abbrev pub kept_of : Slab Entry → List ℕ → List Kept
kept_of s ks = map (λ e. e.kept) (values (entries_of s ks))

-- each cell stands in the list once, and nothing is ready of it
pub record IsLive (s : Slab Entry) (ks : List ℕ) : Type 0 where
  pub grid : IsGrid s ks
  pub free : AreFree s
