-- Laws of the cells of keys.
use Rattle.std.specs.Prelude.{◌≡◌, ℕ}
use Rattle.std.specs.List.{list_any}
use Rattle.std.specs.List.Sorted.{IsStrictlyIncreasing}
use Rattle.std.specs.Ordering.{is_eq, nat_cmp}
use Rattle.ent_request.specs.declared.key.ReadKey.{ReadKey}
use Rattle.ent_index.specs.Index.{ReadIndex, cells_of, has}

-- the cells of a key are those that read it
abbrev pub CellsReadTheirKey : Type 0
CellsReadTheirKey = (index : ReadIndex) (k : ReadKey) (c : ℕ) → list_any (λ cell. is_eq (nat_cmp c cell)) (cells_of index k) ≡ has index k c

-- they rise, so each stands there once
abbrev pub CellsRise : Type 0
CellsRise = (index : ReadIndex) (k : ReadKey) → IsStrictlyIncreasing (cells_of index k)
