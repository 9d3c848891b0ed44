-- The values that a key finds (section 7.3.5).
use Rattle.std.specs.Prelude.{ℕ, List, [], Bool, true, false, ◌&&◌, Option, Some, None, bytes_eq, find, map, unwrap_or}
use Rattle.std.specs.FinMap.{entries}
use Rattle.std.specs.List.{filter, flat_map}
use Rattle.ent_values.specs.Bags.{Contents}
use Rattle.ent_values.specs.Same.{same_type}
use Rattle.ent_values.specs.declared.value.Value.{Value}
use Rattle.ent_finder.specs.declared.row.AttrKey.{AttrKey}
use Rattle.ent_finder.specs.declared.row.RowKey.{RowKey}
use Rattle.ent_finder.specs.Rows.{Rows, Source, filled, is_filled, supports}

-- an issuer is the one that is wanted, if one is
abbrev pub is_wanted : Option (List ℕ) → Option (List ℕ) → Bool
is_wanted None issuer = true
is_wanted (Some wanted) None = false
is_wanted (Some wanted) (Some issuer) = bytes_eq wanted issuer

-- category, entity, attribute and type are the key's, and the issuer is, if the key has one
abbrev pub names_row : AttrKey → RowKey → Bool
names_row key row =
    bytes_eq key.category row.category && (bytes_eq key.entity row.entity && (bytes_eq key.attribute row.attribute && (same_type key.datatype row.datatype && is_wanted key.issuer row.issuer)))

-- the values of the rows that a key names, of the row without an issuer first, then by issuer, as the rows stand
abbrev pub values_of : AttrKey → Rows → List Value
values_of key rows = flat_map (λ e. e.1) (filter (λ e. names_row key e.0) (entries rows))

-- the bag of the values that a key finds in rows
abbrev pub bag_found : AttrKey → Rows → Contents
bag_found key rows = record { datatype = key.datatype; values = values_of key (filled rows) }

-- what the modules have that support the key's category
abbrev pub values_of_each : AttrKey → List Source → List (List Value)
values_of_each key sources = map (λ source. values_of key source.rows) (filter (supports key.category) sources)

-- the values of the first module that supports the category and has any
abbrev pub looked : AttrKey → List Source → List Value
looked key sources = unwrap_or (find is_filled (values_of_each key sources)) []
