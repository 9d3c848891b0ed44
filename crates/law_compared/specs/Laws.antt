-- Laws of what is told of the tables of two services.
use Rattle.std.specs.Prelude.{◌≡◌, ◌↔◌, ℕ, List, true, Some}
use Rattle.serde_json.specs.Data.{Data}
use Rattle.ent_table.specs.Names.{Triple}
use Rattle.law_rebuild.specs.Rebuilding.{emptied}
use Rattle.ent_report.specs.World.{World}
use Rattle.ent_command.specs.Asked as asked
use Rattle.ent_command.specs.Asking.{asked_by}
use Rattle.ent_line.specs.Replies.{Answer, text}
use Rattle.ent_line.specs.Runs.{Run}
use Rattle.ent_line.specs.Step.{Answers}
use Rattle.script_compare.specs.Changes.{difference_of, is_nothing}
use Rattle.law_compared.specs.Difference.{IsDifference, cell_at}

-- a service that held nothing at its start has come there, whatever it was asked, some lines refused; and it answers a
-- line that asks for the table by this text
pub record Replies (w : World) (reply : List ℕ) : Type 0 where
  pub start : World
  pub lines : List (List ℕ)
  pub answers : List Answer
  pub nothing : start.state ≡ emptied start.state
  pub run : Run Answers start lines answers w
  pub session : ℕ
  pub line : List ℕ
  pub end : World
  pub asks : asked_by line ≡ Some (session, asked.question asked.table)
  pub answer : Answers w line (text reply) end

-- of the replies to `table` of two services the difference of their tables is told
abbrev pub DifferencesAreTold : Type 0
DifferencesAreTold =
    (w v : World) (first second : List ℕ) → Replies w first → Replies v second
    → (d : Data) × (difference_of first second ≡ Some d) × IsDifference w.state v.state d

-- no change is told exactly where both tables have the same cells at the same requests
abbrev pub NothingIsToldOfTheSame : Type 0
NothingIsToldOfTheSame =
    (w v : World) (first second : List ℕ) (d : Data) → Replies w first → Replies v second
    → difference_of first second ≡ Some d
    → (is_nothing d ≡ true) ↔ ((x : Triple) → cell_at w.state x ≡ cell_at v.state x)
