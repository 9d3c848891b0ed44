-- Rows as entries of a map.
use Rattle.std.specs.Prelude.{List, T, map}
use Rattle.std.specs.FinMap.{from_sorted, is_sorted}
use Rattle.ent_values.specs.declared.value.Value.{Value}
use Rattle.ent_finder.specs.declared.row.Row.{Row}
use Rattle.ent_finder.specs.declared.row.RowKey.{RowKey}
use Rattle.ent_finder.specs.Rows.{Rows, row_cmp}

-- the key of a row, and its values
abbrev pub row_entry : Row → RowKey × List Value
row_entry row = (row.key, row.values)

-- the entries of several rows
abbrev pub row_entries : List Row → List (RowKey × List Value)
row_entries rows = map row_entry rows

-- the keys of the rows strictly rise
abbrev pub RowsAreSorted : List Row → Type 0
RowsAreSorted rows = T (is_sorted row_cmp (row_entries rows))

-- rows in the order of their keys, as a map
abbrev pub rows_of : List Row → Rows
rows_of rows = from_sorted (row_entries rows)
