-- Rows in blocks that follow one another.
use Rattle.std.specs.Prelude.{List}
use Rattle.std.specs.List.{flat_map}
use Rattle.ent_finder.specs.declared.block.Block.{Block}
use Rattle.ent_finder.specs.declared.row.Row.{Row}

-- the rows of several blocks
abbrev pub rows_in : List Block → List Row
rows_in = flat_map (λ b. b.rows.items)
