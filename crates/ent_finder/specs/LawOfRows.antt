-- Laws of rows that are held, and of values that are found.
use Rattle.std.specs.Prelude.{◌≡◌, ◌≢◌, ◌⊎◌, ℕ, ◌<◌, List, [], Some, true, false, length}
use Rattle.std.specs.FinMap.{get, insert}
use Rattle.ent_values.specs.declared.value.Value.{Value}
use Rattle.ent_finder.specs.declared.row.AttrKey.{AttrKey}
use Rattle.ent_finder.specs.declared.row.RowKey.{RowKey}
use Rattle.ent_finder.specs.Looking.{looked, names_row, values_of}
use Rattle.ent_finder.specs.Rows.{Rows, Source, filled, source_at, supports, values_at, with_row, with_values_in}

-- ---- swaps

-- a swap gives one row other values or takes it away, and leaves the others as they are
abbrev pub SwapChangesOneRow : Type 0
SwapChangesOneRow = (rows : Rows) (key : RowKey) (values : List Value) → filled (insert rows key values) ≡ with_row (filled rows) key values

-- the row is there afterwards, with what was put in, so that a second swap is not refused and gives that back
abbrev pub SwapLeavesRow : Type 0
SwapLeavesRow = (rows : Rows) (key : RowKey) (values : List Value) → get (insert rows key values) key ≡ Some values

-- after a second swap, of what the first one gave, the rows that aren't empty are as before both
abbrev pub SecondSwapRestoresRows : Type 0
SecondSwapRestoresRows = (rows : Rows) (key : RowKey) (values : List Value) → filled (insert (insert rows key values) key (values_at rows key)) ≡ filled rows

-- and if the row was there, all rows are as before both, the empty ones too
abbrev pub SecondSwapRestoresAllRows : Type 0
SecondSwapRestoresAllRows = (rows : Rows) (key : RowKey) (before values : List Value) → get rows key ≡ Some before → insert (insert rows key values) key before ≡ rows

-- ---- values

-- an empty row counts as none
abbrev pub EmptyRowsDoNotCount : Type 0
EmptyRowsDoNotCount = (key : AttrKey) (rows : Rows) → values_of key (filled rows) ≡ values_of key rows

-- a key that names the same row alone, since it has an issuer, finds the values of that row
abbrev pub IssuerNamesOneRow : Type 0
IssuerNamesOneRow = (key : AttrKey) (row : RowKey) (issuer : List ℕ) (rows : Rows) → key.issuer ≡ Some issuer → names_row key row ≡ true → values_of key rows ≡ values_at rows row

-- the values are those of its module, which supports the category, and no module in front of that one supports it and has any
pub record IsOfFirstSource (key : AttrKey) (sources : List Source) (number : ℕ) : Type 0 where
  pub is_module : number < length sources
  pub is_supported : supports key.category (source_at sources number) ≡ true
  pub has_them : values_of key (source_at sources number).rows ≡ looked key sources
  pub is_first : (earlier : ℕ) → earlier < number → (supports key.category (source_at sources earlier) ≡ false) ⊎ (values_of key (source_at sources earlier).rows ≡ [])

-- that is so of the values that are looked up, whatever later modules hold, where there are any
abbrev pub FirstSourceAnswers : Type 0
FirstSourceAnswers = (key : AttrKey) (sources : List Source) → looked key sources ≢ [] → (number : ℕ) × IsOfFirstSource key sources number

-- where there are none, no module that supports the category has any
abbrev pub NoSourceAnswers : Type 0
NoSourceAnswers =
    (key : AttrKey) (sources : List Source) → looked key sources ≡ [] → (number : ℕ) → number < length sources → supports key.category (source_at sources number) ≡ true → values_of key (source_at sources number).rows ≡ []

-- a key that doesn't name a row finds the same values, whatever is put into the row or taken out of it
abbrev pub SwapLeavesOtherKeys : Type 0
SwapLeavesOtherKeys = (key : AttrKey) (sources : List Source) (number : ℕ) (row : RowKey) (values : List Value) → names_row key row ≡ false → looked key (with_values_in sources number row values) ≡ looked key sources
