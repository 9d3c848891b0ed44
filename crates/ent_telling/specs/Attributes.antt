-- What is told of the values that are held of an entity.
use Rattle.std.specs.Prelude.{ℕ, List, Bool, ◌&&◌, map, filter, bytes_eq, codes}
use Rattle.std.specs.FinMap.{entries}
use Rattle.std.specs.List.{enumerate_from, flat_map}
use Rattle.std.specs.Option.{option_map_or}
use Rattle.serde_json.specs.Data as json
use Rattle.serde_json.specs.Data.{Data}
use Rattle.serde_json.specs.View.{items_of}
use Rattle.serde_json.specs.Written.{compact_text}
use Rattle.ent_values.specs.Types.{uri_of}
use Rattle.ent_values.specs.declared.value.Value.{Value}
use Rattle.ent_finder.specs.Rows.{Source}
use Rattle.ent_finder.specs.declared.row.RowKey.{RowKey}
use Rattle.ent_json.specs.Members.{only_member}
use Rattle.ent_polform.specs.Written.{value_written}

-- a row is of an entity of a category
abbrev pub is_of_entity : List ℕ → List ℕ → RowKey → Bool
is_of_entity category entity key = bytes_eq key.category category && bytes_eq key.entity entity

-- the rows of a module that an entity has, with the module's number, in the order of their keys
abbrev pub module_rows : List ℕ → List ℕ → ℕ × Source → List (ℕ × RowKey × List Value)
module_rows category entity m = map (λ e. (m.0, e.0, e.1)) (filter (λ e. is_of_entity category entity e.0) (entries m.1.rows))

-- those of all modules, by the modules' numbers: the order of a dump
abbrev pub rows_of : List ℕ → List ℕ → List Source → List (ℕ × RowKey × List Value)
rows_of category entity sources = flat_map (module_rows category entity) (enumerate_from 0 sources)

-- one of them. Its issuer is null where it has none
abbrev pub row_data : ℕ × RowKey × List Value → Data
row_data row = json.object (
    json.member (codes "attribute") (json.string row.1.attribute)
    (json.member (codes "datatype") (json.string (uri_of row.1.datatype))
    (json.member (codes "issuer") (option_map_or json.string row.1.issuer json.null)
    (json.member (codes "module") (json.number (json.unsigned row.0))
    (json.member (codes "values") (json.array (items_of (map value_written row.2)))
    json.no_members)))))

-- the reply to `attributes`
abbrev pub attributes_data : List Source → List ℕ → List ℕ → Data
attributes_data sources category entity =
    only_member (codes "attributes") (json.array (items_of (map row_data (rows_of category entity sources))))

-- its text
unfoldable pub attributes_text : List Source → List ℕ → List ℕ → List ℕ
attributes_text sources category entity = compact_text (attributes_data sources category entity)
