-- What a desk holds: a state, and for each session an optional mark.
use Rattle.std.specs.Prelude.{ℕ, List, Option, Some, None, option_map, get_or, replicate, slice_set}
use Rattle.ent_table.specs.AnswerMap.{AnswerMap, answers_of}
use Rattle.ent_table.specs.State.{State}

-- a mark: how many edits had been accepted when it was made, and the table of that moment
pub record Mark : Type 0 where
  pub serial : ℕ
  pub table : AnswerMap

-- a state, and the last mark of each of the sessions
pub record World : Type 0 where
  pub state : State
  pub marks : List (Option Mark)

-- no session has a mark
abbrev pub unmarked : List (Option Mark)
unmarked = replicate 16 None

-- the mark of a session
abbrev pub mark_of : World → ℕ → Option Mark
mark_of w session = get_or w.marks session None

-- the table that a session marked
abbrev pub marked_table : World → ℕ → Option AnswerMap
marked_table w session = option_map (λ (m : Mark). m.table) (mark_of w session)

-- the mark that is made in a state
abbrev pub mark_in : State → Mark
mark_in s = record { serial = s.serial; table = answers_of s }

-- a session marks the present table
abbrev pub marked : World → ℕ → World
marked w session = record w { marks = slice_set w.marks session (Some (mark_in w.state)) }
