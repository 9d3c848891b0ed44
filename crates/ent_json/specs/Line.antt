-- A line of JSON: what `serde_json` reads of it.
use Rattle.std.specs.Prelude.{ℕ, List, if◌then◌else◌, Option, None}
use Rattle.std.specs.Str.{is_utf8}
use Rattle.serde_json.specs.Data.{Data}
use Rattle.serde_json.specs.Read.{read}

-- nothing where it is no UTF-8, or no JSON that `serde_json` reads
abbrev pub data_of : List ℕ → Option Data
data_of line = if is_utf8 line then read line else None
