-- What an index says: which cells read a key.
use Rattle.std.specs.Prelude.{◌≡◌, ℕ, List, [], Bool, true, false, not, ◌&&◌, ◌||◌, Option, Some}
use Rattle.std.specs.FinMap.{FinMap, get}
use Rattle.std.specs.Option.{option_map_or}
use Rattle.std.specs.Ordering.{is_eq, nat_cmp}
use Rattle.ent_request.specs.Noted.{has_key, read_cmp}
use Rattle.ent_request.specs.declared.key.ReadKey.{ReadKey}
use Rattle.ent_index.specs.Cells.{CellSet, has_cell, in_order, no_cells}

-- an index: each key that a cell reads, with the cells that read it
abbrev pub ReadIndex : Type 0
ReadIndex = FinMap read_cmp CellSet

-- the cell is among those of a key, if it has some
abbrev pub has_in : Option CellSet → ℕ → Bool
has_in cells cell = option_map_or (λ s. has_cell s cell) cells false

-- the cell reads the key
abbrev pub has : ReadIndex → ReadKey → ℕ → Bool
has index key cell = has_in (get index key) cell

-- a cell reads the key
abbrev pub HasCell : ReadIndex → ReadKey → Type 0
HasCell index key = (c : ℕ) × (has index key c ≡ true)

-- the cells that read the key, each once, in rising order
abbrev pub cells_of : ReadIndex → ReadKey → List ℕ
cells_of index key = option_map_or in_order (get index key) []

-- a key that no cell reads isn't there
abbrev pub IsSound : ReadIndex → Type 0
IsSound index = (k : ReadKey) → get index k ≡ Some no_cells → ⊥

-- ---- pairs of a key and a cell

-- this is one of the keys, and the cell
abbrev pub is_pair_of : List ReadKey → ℕ → ReadKey → ℕ → Bool
is_pair_of keys cell k c = has_key keys k && is_eq (nat_cmp c cell)

-- ---- changes

-- the pairs of the old index, and these
pub record Adds (pairs : ReadKey → ℕ → Bool) (old new : ReadIndex) : Type 0 where
  pub has : (k : ReadKey) (c : ℕ) → has new k c ≡ (pairs k c || has old k c)
  pub sound : IsSound old → IsSound new

-- the pairs of the old index without these
pub record Forgets (pairs : ReadKey → ℕ → Bool) (old new : ReadIndex) : Type 0 where
  pub has : (k : ReadKey) (c : ℕ) → has new k c ≡ (not (pairs k c) && has old k c)
  pub sound : IsSound old → IsSound new
