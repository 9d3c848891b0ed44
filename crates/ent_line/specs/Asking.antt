-- Lines that only ask: they leave the world, and but for `work` no reply rests on how many evaluations there were.
use Rattle.std.specs.Prelude.{◌≡◌, ℕ, ◌≤◌, true, List, All}
pub use Rattle.ent_cells.specs.Count.{most}
use Rattle.ent_line.specs.Replies.{Answer}
use Rattle.ent_line.specs.Runs.{Run}
use Rattle.ent_line.specs.Step.{Counted, Counts}
use Rattle.ent_command.specs.Asking.{only_asks}

-- the same after another number of evaluations
abbrev pub recounted : ℕ → Counted → Counted
recounted n w = record w { beside = record w.beside { count = n } }

-- where lines that only ask lead: to the same world, with the same known tables; and behind any other number of
-- evaluations that is counted they may be answered in the same way
pub record IsAsked (w : Counted) (lines : List (List ℕ)) (answers : List Answer) (v : Counted) : Type 0 where
  pub world : v.world ≡ w.world
  pub known : (n : ℕ) → v.beside.known n ≡ w.beside.known n
  pub again : (count : ℕ) → count ≤ most
      → (end : ℕ) × (end ≤ most) × Run Counts (recounted count w) lines answers (recounted end v)

-- lines that only ask, answered one after the other
abbrev pub QuestionsLeaveAll : Type 0
QuestionsLeaveAll = (w v : Counted) (lines : List (List ℕ)) (answers : List Answer)
    → All (λ line. only_asks line ≡ true) lines → Run Counts w lines answers v → IsAsked w lines answers v
