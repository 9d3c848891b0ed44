-- The tables that are known at the end of a run, from which `changes` tells what changed.
use Rattle.std.specs.Prelude.{◌≡◌, ◌⊎◌, ℕ, List, Some, take}
use Rattle.ent_table.specs.AnswerMap.{AnswerMap, answers_of}
use Rattle.ent_line.specs.Replies.{Answer}
use Rattle.ent_line.specs.Runs.{Run}
use Rattle.ent_line.specs.Step.{Counted, Counts}

-- some first lines lead to a world of that serial, whose fresh table it is
abbrev pub IsLeft : Counted → List (List ℕ) → List Answer → ℕ → AnswerMap → Type 0
IsLeft w lines answers n table = (k : ℕ) × (u : Counted) × Run Counts w (take k lines) (take k answers) u
    × (u.world.state.serial ≡ n) × (answers_of u.world.state ≡ table)

-- a table that is known at the end of a run was known before it, or is the fresh one that some of its lines left at
-- that serial
abbrev pub KnownTablesWereFresh : Type 0
KnownTablesWereFresh = (w v : Counted) (lines : List (List ℕ)) (answers : List Answer) (n : ℕ) (table : AnswerMap)
    → Run Counts w lines answers v → v.beside.known n ≡ Some table
    → (w.beside.known n ≡ Some table) ⊎ IsLeft w lines answers n table
