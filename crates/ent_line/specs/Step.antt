-- What a line is answered, the world after it, and what becomes of what stands beside the world.
use Rattle.std.specs.Prelude.{◌≡◌, ◌⊎◌, ℕ, ◌≤◌, List, length}
pub use Rattle.ent_json.specs.Line.{data_of}
use Rattle.ent_report.specs.World.{World}
use Rattle.ent_line.specs.Beside.{Beside}
use Rattle.ent_line.specs.Commands.{respond}
use Rattle.ent_line.specs.Known.{IsKnown, present_alone}
use Rattle.ent_wire.specs.Lines.{line_limit}
use Rattle.ent_line.specs.Replies.{Answer, refused}
use Rattle.ent_line.specs.Work.{IsWorked, line_work}
use Rattle.ent_wire.specs.declared.refusal.Refusal.TheVariants.{Memory}

-- what `respond` gives, or want of memory, which changes nothing and is never told of a line that is too long
abbrev pub AnswersAfter : Beside → World → List ℕ → Answer → World → Type 0
AnswersAfter b w line a v = ((a, v) ≡ respond b w line) ⊎ ((a ≡ refused Memory) × (v ≡ w) × (length line ≤ line_limit))

-- the answer to a line beside some number of evaluations and some known tables. `Counts` says which
abbrev pub Answers : World → List ℕ → Answer → World → Type 0
Answers w line a v = (b : Beside) × AnswersAfter b w line a v

-- a world, and what stands beside it
pub record Counted : Type 0 where
  pub world : World
  pub beside : Beside

-- a line is answered after the evaluations so far and by the tables that are known, and both become what the answer
-- says of them: `Work` and `Known` have how
abbrev pub Counts : Counted → List ℕ → Answer → Counted → Type 0
Counts w line a v = AnswersAfter w.beside w.world line a v.world
    × IsWorked (line_work w.world.state line) w.beside.count v.beside.count a
    × IsKnown w.beside.known v.world a v.beside.known

-- at the start nothing was evaluated, and the present table alone is known
abbrev pub at_start : World → Counted
at_start w = record { world = w; beside = record { count = 0; known = present_alone w } }
