-- The history of some lines: their accepted edits, whoever asked for them, and of a session its own accepted marks
-- among them.
use Rattle.std.specs.Prelude.{◌≡◌, ℕ, List, [], ◌∷◌, nat_eq, if◌then◌else◌, Option, Some, None, option_and_then, option_map, filter_map, zip, Ok}
use Rattle.std.specs.Result.{result_ok, result_unwrap_or}
use Rattle.ent_table.specs.State.{State}
use Rattle.ent_table.specs.Step as table
use Rattle.ent_table.specs.declared.edit.Edit.{Edit}
use Rattle.ent_report.specs.World.{Mark, World, mark_in, mark_of}
use Rattle.ent_command.specs.Asked.{Command, change}
use Rattle.ent_command.specs.Edits.{edit_of}
use Rattle.ent_line.specs.Replies.{Answer, accepted, marked}
use Rattle.ent_command.specs.Asking.{asked_by}

-- ---- the accepted edits

-- the edit that a command makes, if it makes one
abbrev pub edit_in : Command → Option Edit
edit_in (change c) = result_ok (edit_of c)
edit_in other = None

-- the edit of a command whose answer says that it was accepted
abbrev pub edit_told : Answer → ℕ × Command → Option Edit
edit_told (accepted changes serial) x = edit_in x.1
edit_told other x = None

-- the edit of a line whose answer says so
abbrev pub accepted_edit : List ℕ × Answer → Option Edit
accepted_edit x = option_and_then (edit_told x.1) (asked_by x.0)

-- the accepted edits, in the order of the lines
abbrev pub accepted_edits : List (List ℕ) → List Answer → List Edit
accepted_edits lines answers = filter_map accepted_edit (zip lines answers)

-- these edits, one after the other and each accepted, lead from one state to another
abbrev pub Lead : State → List Edit → State → Type 0
Lead s [] t = t ≡ s
Lead s (edit ∷ edits) t = (middle : State) × (table.step s edit ≡ Ok middle) × Lead middle edits t

-- ---- what a session sees

-- what matters to a session
pub data Matter : Type 0 where
  -- an accepted edit, whoever asked for it
  edit : Edit → Matter
  -- an accepted mark of its own
  own_mark : Matter

-- what a command that is answered so is to a session
abbrev pub matter_of : ℕ → Answer → ℕ × Command → Option Matter
matter_of session (accepted changes serial) x = option_map edit (edit_in x.1)
matter_of session (marked serial) x = if nat_eq x.0 session then Some own_mark else None
matter_of session other x = None

-- what a line with its answer is to it
abbrev pub matter : ℕ → List ℕ × Answer → Option Matter
matter session x = option_and_then (matter_of session x.1) (asked_by x.0)

-- the accepted edits of all sessions and the accepted marks of one, in the order of the lines
abbrev pub history : ℕ → List (List ℕ) → List Answer → List Matter
history session lines answers = filter_map (matter session) (zip lines answers)

-- what a session sees of a world: the state, and its own mark
pub record Seen : Type 0 where
  pub state : State
  pub mark : Option Mark

abbrev pub seen_by : World → ℕ → Seen
seen_by w session = record { state = w.state; mark = mark_of w session }

-- what it sees next: after an edit, which was accepted, the state that this leads to; after a mark of its own the fresh
-- table of that moment as its mark
abbrev pub next : Seen → Matter → Seen
next s (edit e) = record s { state = result_unwrap_or (table.step s.state e) s.state }
next s own_mark = record s { mark = Some (mark_in s.state) }
