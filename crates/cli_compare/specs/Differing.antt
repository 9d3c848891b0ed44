-- What differs between the tables behind the lines of two files.
use Rattle.std.specs.Prelude.{◌≡◌, ◌≢◌, ◌⊎◌, ℕ, ◌++◌, Bool, true, false, List, [], ◌∷◌, Option, Some, None, Result, Ok, Err, bytes_eq, codes, option_and_then, unwrap_or, if◌then◌else◌}
use Rattle.std.specs.Io.KnownBytes.{Appends}
use Rattle.std.specs.List.{before_first}
use Rattle.serde_json.specs.Data.{Data}
use Rattle.serde_json.specs.Written.{compact_text, has_float}
use Rattle.ent_json.specs.Line.{data_of}
use Rattle.ent_json.specs.Objects.{text_at}
use Rattle.script_compare.specs.Changes.{difference_of, is_nothing}
use Rattle.script_compare.specs.Gains.{has, markdown_text}
use Rattle.script_compare.specs.Shown.{shown_text}
use Rattle.script_compare.specs.declared.gains.Way.TheVariants.{Gained, Lost}
use Rattle.script_files.specs.declared.session.SentLine.{SentLine}
use Rattle.ent_wire.specs.declared.fault.ServeFault.{ServeFault}
use Rattle.ent_wire.specs.declared.fault.ServeFault.TheVariants as fault
use Rattle.cli_replies.specs.Comparing.{are_sure, behind, differences, is_newline, is_wanting, pass, asked}
use Rattle.ent_table.specs.declared.limits.Limits.{Limits}
use Rattle.cli_serve.specs.Replying.{AreRepliesTo}
use Rattle.cli_compare.specs.declared.differing.Ending.{Ending}
use Rattle.cli_replies.specs.declared.lines.Lines.{Lines}
use Rattle.cli_words.specs.declared.asked_states.Form.{Form}
use Rattle.cli_words.specs.declared.asked_states.Form.TheVariants.{Json, Markdown, Table}
use Rattle.cli_compare.specs.declared.differing.Ending.TheVariants.{Same, Different, Refused}

-- the line that asks for the table
abbrev pub table_line : List ℕ
table_line = codes "{\"do\":\"table\"}\n"

-- a reply is what a new service within those limits, of two modules of each sort, tells of its table behind these lines, each of which it accepted; it doesn't want memory
pub record IsTableBehind (limits : Limits) (steps : List SentLine) (reply : List ℕ) : Type 0 where
  pub replies : List ℕ
  pub run : AreRepliesTo limits 2 (asked steps ++ table_line) replies
  pub accepted : pass steps replies ≡ true
  pub last : reply ≡ before_first is_newline (behind steps replies)
  pub sure : is_wanting reply ≡ false

-- a line says what format those behind it have, as the first line of a dump does
abbrev pub says_format : List ℕ → Bool
says_format line = bytes_eq (unwrap_or (option_and_then (text_at (codes "do")) (data_of line)) []) (codes "format")

-- lines are those of a state of their own: the first says their format
abbrev pub is_state : List SentLine → Bool
is_state [] = false
is_state (step ∷ steps) = says_format step.line

-- the lines behind which changes are sent: none where these are those of a state of their own, else those of the first state
abbrev pub base_of : List SentLine → List SentLine → List SentLine
base_of state changes = if is_state changes then [] else state

-- of what a new service within those limits replied to these lines of one file and then of another, that which refuses one is written; none is refused for want of memory
pub record Refuses (limits : Limits) (name : List ℕ) (base : List SentLine) (lines : Lines) (before after : Option (List ℕ)) : Type 0 where
  pub replies : List ℕ
  pub run : AreRepliesTo limits 2 (asked (base ++ lines.steps.now) ++ table_line) replies
  pub refused : pass (base ++ lines.steps.now) replies ≡ false
  pub sure : are_sure (base ++ lines.steps.now) replies ≡ true
  pub written : Appends before after (differences name base replies ++ differences lines.name.now lines.steps.now (behind base replies))

-- the reply of a new service that tells its table behind these lines of one file and then of another; or none, where it refused one
abbrev pub GivesTable : Limits → List ℕ → List SentLine → Lines → Option (List ℕ) → Option (List ℕ) → Option (List ℕ) → Type 0
GivesTable limits name base lines before after (Some reply) = IsTableBehind limits (base ++ lines.steps.now) reply × Appends before after []
GivesTable limits name base lines before after None = Refuses limits name base lines before after

-- a comparison ended so: nothing differs, or something does, and requests gain Permit or lose it
abbrev pub ended_by : Data → Ending
ended_by told = if is_nothing told then Same else Different (has Gained told) (has Lost told)

-- a text is what is told, in a form: a line of JSON, if it has no fraction, a table, or Markdown
abbrev pub IsTextOf : Form → Data → List ℕ → Type 0
IsTextOf Json told text = has_float told ≡ false → text ≡ compact_text told ++ codes "\n"
IsTextOf Table told text = text ≡ shown_text told
IsTextOf Markdown told text = text ≡ markdown_text told

-- what was written is what differs between the table behind the lines of a state and that behind the changes
pub record TellsDifference (limits : Limits) (form : Form) (state changes : Lines) (before after : Option (List ℕ)) (ended : Ending) : Type 0 where
  pub first : List ℕ
  pub second : List ℕ
  pub told : Data
  pub text : List ℕ
  pub table : IsTableBehind limits state.steps.now first
  pub other : IsTableBehind limits (base_of state.steps.now changes.steps.now ++ changes.steps.now) second
  pub difference : difference_of first second ≡ Some told
  pub spelled : IsTextOf form told text
  pub written : Appends before after text
  pub result : ended ≡ ended_by told

-- a line of the state was refused, or one that is sent to the second service, and which it was is what was written
abbrev pub TellsRefused : Limits → Lines → Lines → Option (List ℕ) → Option (List ℕ) → Type 0
TellsRefused limits state changes before after = Refuses limits [] [] state before after
    ⊎ ((first : List ℕ) × IsTableBehind limits state.steps.now first × Refuses limits state.name.now (base_of state.steps.now changes.steps.now) changes before after)

-- what a comparison writes and gives; where a line is refused, nothing is compared
abbrev pub Compares : Limits → Form → Lines → Lines → Option (List ℕ) → Option (List ℕ) → Result Ending ServeFault → Type 0
Compares limits form state changes before after (Ok Refused) = TellsRefused limits state changes before after
Compares limits form state changes before after (Ok ended) = TellsDifference limits form state changes before after ended
Compares limits form state changes before after (Err e) = e ≢ fault.Read
