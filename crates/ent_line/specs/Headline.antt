-- The promise of the service, on the page to be read first. docs/READING.md says what its words are and what to read
-- after it.
--
-- A line asks for one command in one of sixteen sessions: a change, a question or a mark. Its reply rests on the world
-- that the accepted edits and marks of the lines before it left: a state, which is what is held, the three lists and
-- the number of edits, and for each session an optional mark. No reply rests on a kept cell: each is said by evaluating
-- requests afresh (section 7 of XACML 3.0 core). Beside the world stand the number of evaluations so far, which only
-- `work` tells, and the tables of earlier serials that are still known, at which only `changes` looks (`Known`). What
-- becomes of both `Counts` says, in `Work`. After any lines the state is where their accepted edits lead, one after the
-- other, and a session's mark is the fresh table at the place of its last mark among them (`IsLed`).
--
-- What each line is answered stands in `Commands`, once: `respond` of a line, `run` of a change or a mark, `told` of a
-- question. This page says what is so of all of them, and of runs of lines. The last words on the page, `Headline`, are
-- what the call `serve_review`, which the program makes, ensures of the bytes that are read and written. What `dump`
-- tells brings a new service to the same state: that is a law of `law_restart` (Restart), over the runs of this page.
use Rattle.std.specs.Prelude.{◌≡◌, ℕ, ◌<◌, List, length, fold, Some, Result, Err}
use Rattle.serde_json.specs.Data.{Data}
use Rattle.ent_table.specs.Doubles.{HasNoDoubles}
use Rattle.ent_report.specs.Differing.{NoticesAreTheDifference}
use Rattle.ent_report.specs.World.{World}
use Rattle.ent_command.specs.Asked.{IsOfCommands, command_in}
use Rattle.ent_line.specs.Fresh.{KnownTablesWereFresh}
use Rattle.ent_line.specs.History.{Lead, accepted_edits, history, next, seen_by}
use Rattle.ent_wire.specs.Lines.{IsOneLine}
use Rattle.ent_line.specs.Replies.{Answer, line_of, refused}
use Rattle.ent_line.specs.Runs.{Run}
use Rattle.ent_line.specs.Serving.{Ends, ServesUntil}
use Rattle.ent_line.specs.Sessions.{SessionsAreSeparate}
use Rattle.ent_line.specs.Step.{Answers, Counted, Counts, data_of}
use Rattle.ent_wire.specs.declared.fault.ServeFault.{ServeFault}
use Rattle.ent_wire.specs.declared.refusal.Refusal.{Refusal}

-- what holds of the answers to a line in a world: `respond` (`Commands`) gives one by what stands beside it, and want
-- of memory, which changes nothing and never stands in place of refusal 1, is the only other (`Step`)
pub record IsHeard (w : World) (line : List ℕ) : Type 0 where
  -- what asks for no command has one of three refusals: of its shape, of an unknown command, of an unknown session
  pub no_command : (d : Data) (why : Refusal) → data_of line ≡ Some d → command_in d ≡ Err why → IsOfCommands why
  -- a refused line changes nothing
  pub refusal : (v : World) (why : Refusal) → Answers w line (refused why) v → v ≡ w
  -- its reply is written as one line: its text has no newline
  pub one_line : (v : World) (a : Answer) → Answers w line a v → IsOneLine (line_of a)

-- where lines that were answered so lead, one after the other, from one world to another
pub record IsLed (w : World) (lines : List (List ℕ)) (answers : List Answer) (v : World) : Type 0 where
  -- to the state that their accepted edits lead to, each of which was accepted where the ones before it had led
  pub state : Lead w.state (accepted_edits lines answers) v.state
  -- each session to what it sees after these edits and its own accepted marks among them (`History`): an edit leads to
  -- another state, and a mark keeps the fresh table of the state at its place, so that its last one is that of its last
  -- place
  pub session : (session : ℕ) → session < length w.marks
      → seen_by v session ≡ fold next (seen_by w session) (history session lines answers)
  -- to lists in which no name stands twice where none did before, as at the start (`Doubles`): so a number of changes
  -- counts each request once
  pub names : HasNoDoubles w.state.names → HasNoDoubles v.state.names

-- each line in each world; each run of lines, which leads so whatever stands beside the world; that notices are the
-- difference of the two tables, exactly the requests to which these have different answers; that a known table is the
-- fresh one which lines left at its serial; and what others mark or ask has no part in a session's notices
pub record IsHeadline : Type 0 where
  pub lines : (w : World) (line : List ℕ) → IsHeard w line
  pub counted : (w v : Counted) (lines : List (List ℕ)) (answers : List Answer)
      → Run Counts w lines answers v → Run Answers w.world lines answers v.world
  pub runs : (w v : World) (lines : List (List ℕ)) (answers : List Answer)
      → Run Answers w lines answers v → IsLed w lines answers v
  pub differences : NoticesAreTheDifference
  pub known : KnownTablesWereFresh
  pub sessions : SessionsAreSeparate

-- what a served review promises: its bytes are the replies to the lines of the bytes that it read, in order, each in
-- the world that the lines before it left, by what they left beside it (`Serving` has the ends that this can have), and
-- each reply is the one said above
pub record Headline (e : Ends Counted) (r : Result ℕ ServeFault) : Type 0 where
  pub bytes : ServesUntil Counts e r
  pub replies : IsHeadline
