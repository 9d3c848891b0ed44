-- What a session's notices rest on: the accepted edits, whoever made them, and the session's own marks.
use Rattle.std.specs.Prelude.{◌≡◌, ◌⊎◌, ◌<◌, ◌≤◌, ℕ, List, length, Some}
use Rattle.ent_report.specs.World.{World, mark_of}
use Rattle.ent_command.specs.Asked as asked
use Rattle.ent_command.specs.Asking.{asked_by}
use Rattle.ent_line.specs.History.{history}
use Rattle.ent_wire.specs.Lines.{line_limit}
use Rattle.ent_line.specs.Replies.{Answer, refused}
use Rattle.ent_line.specs.Runs.{Run}
use Rattle.ent_line.specs.Commands.{changes_told}
use Rattle.ent_line.specs.Step.{Answers}
use Rattle.ent_wire.specs.declared.refusal.Refusal.TheVariants.{Memory}

-- two worlds have the same state and the same mark of a session, and each has a place for it
pub record AreAlikeTo (session : ℕ) (w v : World) : Type 0 where
  pub state : w.state ≡ v.state
  pub mark : mark_of w session ≡ mark_of v session
  pub first : session < length w.marks
  pub second : session < length v.marks

-- a line asks for the notices of a session
pub record AsksNotices (session : ℕ) (line : List ℕ) : Type 0 where
  pub short : length line ≤ line_limit
  pub command : asked_by line ≡ Some (session, asked.question asked.notices)

-- two worlds tell a session the same notices: two lines that ask for them have the same reply, unless one of them is
-- refused for want of memory
pub record TellAlike (session : ℕ) (w v : World) : Type 0 where
  pub notices : changes_told w session ≡ changes_told v session
  pub replies : (line other : List ℕ) (a b : Answer) (x y : World) → AsksNotices session line → AsksNotices session other
      → Answers w line a x → Answers v other b y → (a ≡ b) ⊎ ((a ≡ refused Memory) ⊎ (b ≡ refused Memory))

-- two runs from the same state and the same mark of a session, with the same accepted edits and the session's own marks
-- at the same places among them, give it the same notices, whatever other sessions mark or ask
abbrev pub SessionsAreSeparate : Type 0
SessionsAreSeparate = (session : ℕ) (w other v end : World) (lines others : List (List ℕ)) (answers other_answers : List Answer)
    → AreAlikeTo session w other → Run Answers w lines answers v → Run Answers other others other_answers end
    → history session lines answers ≡ history session others other_answers
    → TellAlike session v end
