-- The dump of a state: the lines that make it anew.
use Rattle.std.specs.Prelude.{ℕ, List, ◌∷◌, map, codes}
use Rattle.serde_json.specs.Data as json
use Rattle.serde_json.specs.Data.{Data}
use Rattle.serde_json.specs.Written.{compact_text}
use Rattle.ent_table.specs.State.{State}
use Rattle.law_rebuild.specs.Rebuilding.{rebuilding}
use Rattle.ent_dump.specs.Edits.{edit_data}
use Rattle.ent_dump.specs.Reply.{reply_data}

-- the command that says of which version the lines behind it are
abbrev pub format_data : ℕ → Data
format_data version = json.object (
    json.member (codes "do") (json.string (codes "format"))
    (json.member (codes "version") (json.number (json.unsigned version))
    json.no_members))

-- the commands of a dump: its version, and the edits that make the state anew
abbrev pub dump_commands : ℕ → State → List Data
dump_commands version s = format_data version ∷ map edit_data (rebuilding s)

-- the lines of a dump
abbrev pub dumped : ℕ → State → List (List ℕ)
dumped version s = map compact_text (dump_commands version s)

-- the reply that tells them
abbrev pub dump_data : ℕ → State → Data
dump_data version s = reply_data (dumped version s)

-- its text
unfoldable pub dump_text : ℕ → State → List ℕ
dump_text version s = compact_text (dump_data version s)
