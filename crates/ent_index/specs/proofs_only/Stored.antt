-- How an index and its cells are stored.
use Rattle.std.specs.Prelude.{ℕ, List, map}
use Rattle.std.specs.BTreeMap.{BTreeMap}
use Rattle.std.specs.FinMap.{from_entries}
use Rattle.ent_request.specs.declared.key.ReadKey.{ReadKey}
use Rattle.ent_index.specs.Cells.{CellSet}
use Rattle.ent_index.specs.Index.{ReadIndex}

-- the entries of the set of some cells
abbrev pub marked : List ℕ → List (ℕ × Unit {0})
marked cells = map (λ cell. (cell, tt)) cells

-- the index that has the cells of each key
abbrev pub index_of : BTreeMap ReadKey CellSet → ReadIndex
index_of readers = from_entries readers.entries
