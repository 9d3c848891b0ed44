-- What a module of attributes has: the categories that it supports, and its rows by key.
use Rattle.std.specs.Prelude.{ℕ, List, [], ◌∷◌, Bool, true, false, bytes_eq, slice_index_or, slice_set, unwrap_or}
use Rattle.std.specs.FinMap.{FinMap, empty, entries, from_entries, get, insert, remove}
use Rattle.std.specs.List.{filter, list_any}
use Rattle.std.specs.declared.cmp.Ordering.{Ordering}
use Rattle.ent_values.specs.declared.value.Value.{Value}
use Rattle.ent_finder.specs.contracts.row.RowKeyOrd.TheImpl.{ghosts}
use Rattle.ent_finder.specs.declared.row.RowKey.{RowKey}

-- the order of keys: by category, entity, attribute, type and issuer, that without an issuer first
abbrev pub row_cmp : RowKey → RowKey → Ordering
row_cmp = ghosts.cmp

-- rows by key, of which some are empty
abbrev pub Rows : Type 0
Rows = FinMap row_cmp (List Value)

-- whether there is a value
abbrev pub is_filled : List Value → Bool
is_filled [] = false
is_filled (v ∷ vs) = true

-- the rows that aren't empty
abbrev pub filled : Rows → Rows
filled rows = from_entries (filter (λ e. is_filled e.1) (entries rows))

-- the values in the row of a key, none if the row isn't there
abbrev pub values_at : Rows → RowKey → List Value
values_at rows key = unwrap_or (get rows key) []

-- the rows with these values under the key, or without a row under it where there are none
abbrev pub with_row : Rows → RowKey → List Value → Rows
with_row rows key [] = remove rows key
with_row rows key (v ∷ vs) = insert rows key (v ∷ vs)

-- a module: the categories that it supports, and its rows
pub record Source : Type 0 where
  pub categories : List (List ℕ)
  pub rows : Rows

-- whether a module supports a category
abbrev pub supports : List ℕ → Source → Bool
supports category source = list_any (bytes_eq category) source.categories

-- the module of that number, counted from 0
abbrev pub source_at : List Source → ℕ → Source
source_at sources number = slice_index_or sources number (record { categories = []; rows = empty })

-- the module with these values in the row of a key, which is there also where they are none
abbrev pub with_row_put : Source → RowKey → List Value → Source
with_row_put source key values = record source { rows = insert source.rows key values }

-- the modules with these values in the row of a key in one of them, which is there also where they are none
abbrev pub with_row_in : List Source → ℕ → RowKey → List Value → List Source
with_row_in sources number key values = slice_set sources number (record (source_at sources number) { rows = insert (source_at sources number).rows key values })

-- the modules with these values in the row of a key in one of them, or without that row where they are none
abbrev pub with_values_in : List Source → ℕ → RowKey → List Value → List Source
with_values_in sources number key values = slice_set sources number (record (source_at sources number) { rows = with_row (source_at sources number).rows key values })

-- a module without its empty rows
abbrev pub filled_source : Source → Source
filled_source source = record source { rows = filled source.rows }
