-- JSON that its compact text is read as.
use Rattle.std.specs.Prelude.{◌≡◌, ◌≤◌, true, Some}
use Rattle.std.specs.Str.{is_utf8}
use Rattle.serde_json.specs.Data.{Data, depth}
use Rattle.serde_json.specs.Read.{max_depth}
use Rattle.serde_json.specs.Written.{compact_text}
use Rattle.ent_wire.specs.Lines.{NoNewline}
use Rattle.ent_json.specs.Line.{data_of}
pub use Rattle.ent_polform.specs.Plain.{AreBehind, ArePlainItems, ArePlainMembers, IsPlain, IsWholeNumber}

-- the compact text of such JSON, not too deep, is read as that JSON, where it is UTF-8
abbrev pub TextsReadBack : Type 0
TextsReadBack = (d : Data) → IsPlain d → depth d ≤ max_depth → is_utf8 (compact_text d) ≡ true → data_of (compact_text d) ≡ Some d

-- and it is one line
abbrev pub TextsAreLines : Type 0
TextsAreLines = (d : Data) → IsPlain d → NoNewline (compact_text d)
