-- Which block holds the row of a key: words of the code's own contracts.
use Rattle.std.specs.Prelude.{ℕ, suc, List, [], ◌∷◌, T, drop, take}
use Rattle.std.specs.FinMap.Entries.{below_all}
use Rattle.std.specs.List.{list_all}
use Rattle.std.specs.Ordering.{is_lt}
use Rattle.std.specs.declared.cmp.Ordering.{Ordering}
use Rattle.std.specs.declared.cmp.Ordering.TheVariants.{Less}
use Rattle.ent_finder.specs.declared.block.Block.{Block}
use Rattle.ent_finder.specs.declared.row.Row.{Row}
use Rattle.ent_finder.specs.declared.row.RowKey.{RowKey}
use Rattle.ent_finder.specs.RowEntry.{row_entries, rows_of}
use Rattle.ent_finder.specs.Rows.{Rows, row_cmp}
use Rattle.ent_finder.specs.Blocks.{rows_in}

-- these rows as a map, where they stand in the order of their keys
abbrev pub held_in : List Block → Rows
held_in blocks = rows_of (rows_in blocks)

-- how the first row stands to what is wanted
abbrev pub first_cmp : (Row → Ordering) → List Row → Ordering
first_cmp order [] = Less
first_cmp order (r ∷ rs) = order r

-- the row of a key is in the block of that number, if it is there: those in front come before it, and those behind come after it
pub record IsHome (key : RowKey) (blocks : List Block) (number : ℕ) : Type 0 where
  pub in_front : T (list_all (λ e. is_lt (row_cmp e.0 key)) (row_entries (rows_in (take number blocks))))
  pub behind : T (below_all row_cmp key (row_entries (rows_in (drop (suc number) blocks))))
