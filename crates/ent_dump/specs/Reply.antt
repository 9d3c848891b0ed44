-- The reply that tells a dump, and the lines that are read of it.
use Rattle.std.specs.Prelude.{ℕ, ◌==◌, List, [], ◌∷◌, map, Option, Some, None, option_and_then, option_map, unwrap_or, codes, if◌then◌else◌}
use Rattle.std.specs.List.{list_any}
use Rattle.serde_json.specs.Data as json
use Rattle.serde_json.specs.Data.{Data, Items}
use Rattle.serde_json.specs.Find.{as_array, as_str, get}
use Rattle.serde_json.specs.View.{items_of}
use Rattle.ent_json.specs.Line.{data_of}
use Rattle.ent_json.specs.Members.{only_member}
use Rattle.ent_json.specs.Objects.{has_only}

-- the reply that tells some lines
abbrev pub reply_data : List (List ℕ) → Data
reply_data lines = only_member (codes "dump") (json.array (items_of (map json.string lines)))

-- a text, if it has no newline
abbrev pub line_of : List ℕ → Option (List ℕ)
line_of text = if list_any (λ b. b == 10) text then None else Some text

-- a text of one line
abbrev pub line_in : Data → Option (List ℕ)
line_in d = option_and_then line_of (as_str d)

-- texts of one line each
abbrev pub lines_in : Items → Option (List (List ℕ))
lines_in json.no_items = Some []
lines_in (json.item d ds) = option_and_then (λ s. option_map (λ ss. s ∷ ss) (lines_in ds)) (line_in d)

-- the lines of an object with the key `dump` alone
abbrev pub told_lines : Data → Option (List (List ℕ))
told_lines d = if has_only (codes "dump" ∷ []) d then option_and_then lines_in (option_and_then as_array (get (codes "dump") d)) else None

-- the lines of a reply, where it tells a dump
abbrev pub texts_of : List ℕ → Option (List (List ℕ))
texts_of reply = option_and_then told_lines (data_of reply)

-- the text that a value is, or the empty one
abbrev pub text_of : Data → List ℕ
text_of d = unwrap_or (as_str d) []
