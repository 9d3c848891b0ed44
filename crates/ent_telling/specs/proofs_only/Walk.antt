-- What is written of slots and of rows, part by part.
use Rattle.std.specs.Prelude.{ℕ, List, [], ◌∷◌, Bool, true, Option, Some, None, if◌then◌else◌, is_some, bytes_eq}
use Rattle.std.specs.List.{flat_map}
use Rattle.std.specs.Option.{option_map_or}
use Rattle.json.specs.Token.{Token}
use Rattle.serde_json.specs.Data.{Data}
use Rattle.ent_values.specs.declared.value.Value.{Value}
use Rattle.ent_policy.specs.declared.document.Tree.{Tree}
use Rattle.ent_policy.specs.declared.key.DocKey.{DocKey}
use Rattle.ent_finder.specs.declared.row.RowKey.{RowKey}
use Rattle.ent_json.specs.Text.{tokens_of}
use Rattle.ent_telling.specs.Attributes.{is_of_entity, row_data}
use Rattle.ent_telling.specs.Documents.{document_data}
use Rattle.lint_reach.specs.declared.place.DocPlace.{DocPlace}

-- the tokens of several values, one after the other
abbrev pub each_tokens : List Data → List Token
each_tokens ds = flat_map tokens_of ds

-- a document is asked for by its id, or all are
abbrev pub is_asked : Option (List ℕ) → DocKey → Bool
is_asked id key = option_map_or (bytes_eq key.id) id true

-- what is told of a slot
abbrev pub slot_data : (DocPlace → Bool) → Option (List ℕ) → ℕ → DocKey × Option Tree → List Data
slot_data reached id number (key, None) = []
slot_data reached id number (key, Some document) = if is_asked id key then document_data reached (is_some id) (number, key, document) ∷ [] else []

-- what is told of a row, which may be empty
abbrev pub filled_data : List ℕ → List ℕ → ℕ → RowKey × List Value → List Data
filled_data category entity number (key, []) = []
filled_data category entity number (key, v ∷ vs) = if is_of_entity category entity key then row_data (number, key, v ∷ vs) ∷ [] else []
