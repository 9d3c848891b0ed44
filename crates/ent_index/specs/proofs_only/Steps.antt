-- What one step does to an index: one cell, one key, one pair.
use Rattle.std.specs.Prelude.{ℕ, ◌≡◌, Bool, ◌&&◌, cond, is_some}
use Rattle.std.specs.BTreeMap as tree
use Rattle.std.specs.BTreeMap.{BTreeMap}
use Rattle.std.specs.FinMap.{get, insert, remove}
use Rattle.std.specs.Option.{option_map}
use Rattle.std.specs.Ordering.{is_eq, nat_cmp}
use Rattle.ent_request.specs.Noted.{read_cmp}
use Rattle.ent_request.specs.declared.key.ReadKey.{ReadKey}
use Rattle.ent_index.specs.Cells.{CellSet}
use Rattle.ent_index.specs.Index.{ReadIndex}

-- the cells, and one more
abbrev pub with_cell : CellSet → ℕ → CellSet
with_cell cells cell = insert cells cell tt

-- the cells but that one
abbrev pub without_cell : CellSet → ℕ → CellSet
without_cell cells cell = remove cells cell

-- a cell reads the key
abbrev pub is_read : ReadIndex → ReadKey → Bool
is_read index key = is_some (get index key)

-- these are the key and the cell
abbrev pub is_pair : ReadKey → ℕ → ReadKey → ℕ → Bool
is_pair key cell k c = is_eq (read_cmp k key) && is_eq (nat_cmp c cell)

-- under the key stand other cells, if there are any
abbrev pub Puts : (CellSet → CellSet) → BTreeMap ReadKey CellSet → BTreeMap ReadKey CellSet → ReadKey → Type 0
Puts change old new key = (k : ReadKey) → tree.get read_cmp new k
    ≡ cond (is_eq (read_cmp key k)) (option_map change (tree.get read_cmp old key)) (tree.get read_cmp old k)
