-- Sets of cells.
use Rattle.std.specs.Prelude.{ℕ, List, Bool}
use Rattle.std.specs.FinMap.{FinMap, contains_key, empty, keys}
use Rattle.std.specs.Ordering.{nat_cmp}

-- a set is a map with nothing at each of its keys
abbrev pub CellSet : Type 0
CellSet = FinMap nat_cmp (Unit {0})

abbrev pub no_cells : CellSet
no_cells = empty

abbrev pub has_cell : CellSet → ℕ → Bool
has_cell cells cell = contains_key cells cell

-- the cells, each once, in rising order
abbrev pub in_order : CellSet → List ℕ
in_order = keys
