-- Which tables of earlier serials are known after a line: those that the oldest mark needs.
use Rattle.std.specs.Prelude.{◌≡◌, ℕ, nat_eq, nat_lt, if◌then◌else◌, Option, Some, None}
use Rattle.ent_table.specs.AnswerMap.{AnswerMap, answers_of}
use Rattle.ent_report.specs.Serials.{mark_serials, oldest}
use Rattle.ent_report.specs.World.{World}
use Rattle.ent_line.specs.Replies as replies
use Rattle.ent_line.specs.Replies.{Answer}

-- the oldest mark of a world, or the present serial where there is none
abbrev pub oldest_of : World → ℕ
oldest_of w = oldest (mark_serials w) w.state.serial

-- those from the oldest mark of a world on
abbrev pub left_of : World → (ℕ → Option AnswerMap) → ℕ → Option AnswerMap
left_of w known n = if nat_lt n (oldest_of w) then None else known n

-- at the start the present one alone
abbrev pub present_alone : World → ℕ → Option AnswerMap
present_alone w n = if nat_eq n w.state.serial then Some (answers_of w.state) else None

-- those from the oldest mark on and the present one
abbrev pub added : World → (ℕ → Option AnswerMap) → ℕ → Option AnswerMap
added w known n = if nat_eq n w.state.serial then Some (answers_of w.state) else left_of w known n

-- after an answer that leads to a world: an accepted edit adds the table that it leaves; it and a mark forget those
-- from before the oldest mark; by any other answer they stay
abbrev pub known_after : World → Answer → (ℕ → Option AnswerMap) → ℕ → Option AnswerMap
known_after w (replies.accepted changes serial) known = added w known
known_after w (replies.marked serial) known = left_of w known
known_after w other known = known

-- these tables become those
abbrev pub IsKnown : (ℕ → Option AnswerMap) → World → Answer → (ℕ → Option AnswerMap) → Type 0
IsKnown old w a new = (n : ℕ) → new n ≡ known_after w a old n
