-- What a comparison writes, by the tables of two services.
use Rattle.std.specs.Prelude.{◌≡◌, ℕ, List, ◌++◌, map, Option}
use Rattle.std.specs.Io.KnownBytes.{Appends}
use Rattle.std.specs.List.{All}
use Rattle.serde_json.specs.Data.{Data}
use Rattle.ent_report.specs.World.{World}
use Rattle.ent_wire.specs.Lines.{NoNewline}
use Rattle.ent_line.specs.Replies.{Answer}
use Rattle.ent_line.specs.Runs.{Run}
use Rattle.ent_line.specs.Step.{Answers}
use Rattle.script_files.specs.declared.session.SentLine.{SentLine}
use Rattle.cli_compare.specs.Differing.{IsTableBehind, IsTextOf, TellsDifference, base_of, ended_by}
use Rattle.cli_serve.specs.Limiting.{bounded}
use Rattle.cli_serve.specs.Starting.{start_of}
use Rattle.ent_table.specs.declared.limits.Limits.{Limits}
use Rattle.cli_compare.specs.declared.differing.Ending.{Ending}
use Rattle.cli_words.specs.declared.asked_states.Form.{Form}
use Rattle.cli_replies.specs.declared.lines.Lines.{Lines}
use Rattle.law_compared.specs.Difference.{IsDifference}
use Rattle.law_compared.specs.Laws.{Replies}

-- the lines that are sent in steps
abbrev pub lines_in : List SentLine → List (List ℕ)
lines_in steps = map (λ step. step.line) steps

-- each is one line, as what is read of a file is
abbrev pub AreLines : List SentLine → Type 0
AreLines steps = All NoNewline (lines_in steps)

-- a new service within those limits, of two modules of each sort, has come to a world by some lines
pub record HasCome (limits : Limits) (lines : List (List ℕ)) (w : World) : Type 0 where
  pub answers : List Answer
  pub run : Run Answers (start_of (bounded limits) 2 2) lines answers w

-- a table behind lines is what a service that has come to a world by these replies there
pub record IsTableOf (limits : Limits) (lines : List (List ℕ)) (reply : List ℕ) : Type 0 where
  pub world : World
  pub comes : HasCome limits lines world
  pub replies : Replies world reply

abbrev pub TablesAreReplies : Type 0
TablesAreReplies = (limits : Limits) (steps : List SentLine) (reply : List ℕ) → AreLines steps → IsTableBehind limits steps reply → IsTableOf limits (lines_in steps) reply

-- what was written is the difference of the tables of two services, which have come to their worlds by these lines and
-- by those
pub record IsWrittenOf (limits : Limits) (form : Form) (first second : List (List ℕ)) (before after : Option (List ℕ)) (ended : Ending) : Type 0 where
  pub one : World
  pub other : World
  pub comes : HasCome limits first one
  pub other_comes : HasCome limits second other
  pub told : Data
  pub is : IsDifference one.state other.state told
  pub text : List ℕ
  pub spelled : IsTextOf form told text
  pub written : Appends before after text
  pub result : ended ≡ ended_by told

-- so it is of each comparison that refuses no line
abbrev pub ComparisonsTellTables : Type 0
ComparisonsTellTables =
    (limits : Limits) (form : Form) (state changes : Lines) (before after : Option (List ℕ)) (ended : Ending)
    → AreLines state.steps.now → AreLines changes.steps.now → TellsDifference limits form state changes before after ended
    → IsWrittenOf limits form (lines_in state.steps.now) (lines_in (base_of state.steps.now changes.steps.now ++ changes.steps.now)) before after ended
