-- A new service that is told the dump of a state.
use Rattle.std.specs.Prelude.{◌≡◌, ◌≢◌, ℕ, ◌≤◌, List, [], ◌∷◌, length, Some, Ok, ◌^◌, true}
use Rattle.std.specs.List.{AllByRecursion}
use Rattle.ent_values.specs.ReadBack.{HasFewYears}
use Rattle.ent_table.specs.State.{State, table_of}
use Rattle.ent_table.specs.declared.limits.Limits.{Limits}
use Rattle.law_rebuild.specs.Rebuilding.{emptied, new_state, rebuilding}
use Rattle.ent_dump.specs.Dumped.{dump_text, dumped}
use Rattle.ent_dump.specs.Reply.{texts_of}
use Rattle.ent_report.specs.World.{World}
use Rattle.ent_line.specs.Commands.{dump_told}
use Rattle.ent_line.specs.Dumping.{can_tell, format_reply, is_version}
use Rattle.ent_wire.specs.Lines.{NoNewline, line_limit}
use Rattle.ent_line.specs.Replies.{Answer, accepted, answered, refused, text}
use Rattle.ent_line.specs.Runs.{Run}
use Rattle.ent_line.specs.Step.{Answers}
use Rattle.ent_wire.specs.declared.refusal.Refusal.TheVariants.{Memory}
use Rattle.law_restart.specs.Carried.{values_of}

-- no duration in a state's documents and rows has more whole years than can be read
abbrev pub IsShortState : State → Type 0
IsShortState s = AllByRecursion (λ e. AllByRecursion HasFewYears (values_of e)) (rebuilding s)

-- a text is no longer than a line may be
abbrev pub IsShortText : List ℕ → Type 0
IsShortText line = length line ≤ line_limit

-- the number of each module can be written
pub record HasFewModules (s : State) : Type 0 where
  pub policies : length s.held.modules ≤ 2 ^ 64
  pub attributes : length s.held.sources ≤ 2 ^ 64

-- an answer is not that memory is wanting
abbrev pub IsNoWant : Answer → Type 0
IsNoWant a = a ≢ refused Memory

-- an answer is that an edit was accepted
abbrev pub IsAccepted : Answer → Type 0
IsAccepted (accepted changes serial) = Unit {0}
IsAccepted other = ⊥

-- the first line is answered by the version that it tells, and each other is accepted
abbrev pub AreTaken : ℕ → List Answer → Type 0
AreTaken version [] = ⊥
AreTaken version (a ∷ answers) = (a ≡ answered (Ok (format_reply version))) × AllByRecursion IsAccepted answers

-- a service was made anew: it took each line, and its state is the other's, with so many accepted edits as the state
-- needs. So its table is the other's, and so are the lines that it tells
pub record IsRestarted (version : ℕ) (start w v : World) (answers : List Answer) : Type 0 where
  pub taken : AreTaken version answers
  pub state : v.state ≡ record w.state { serial = length (rebuilding w.state) }
  pub table : table_of v.state ≡ table_of w.state
  pub again : (n : ℕ) → dumped n v.state ≡ dumped n w.state
  pub marks : v.marks ≡ start.marks

-- whatever was asked of a service that held nothing at its start, some lines refused: a service with the same start
-- that is told the dump of its state, in a version that can tell it, is made anew, where memory isn't wanting, no line
-- is too long and no duration in the state is longer than can be read
abbrev pub DumpsRestart : Type 0
DumpsRestart =
    (version : ℕ) (start w v : World) (lines : List (List ℕ)) (answers others : List Answer)
    → start.state ≡ emptied start.state → HasFewModules start.state → Run Answers start lines answers w
    → can_tell version w.state.held.environment ≡ true → IsShortState w.state → AllByRecursion IsShortText (dumped version w.state)
    → Run Answers start (dumped version w.state) others v → AllByRecursion IsNoWant others
    → IsRestarted version start w v others

-- the law by what is seen of a service alone: whatever was asked of a service that held nothing at its start, a service
-- with the same start that is told the dump of its state, answers the first line by its version and accepts each other,
-- is made anew
abbrev pub TakenDumpsRestart : Type 0
TakenDumpsRestart =
    (version : ℕ) (start w v : World) (lines : List (List ℕ)) (answers others : List Answer)
    → start.state ≡ emptied start.state → HasFewModules start.state → Run Answers start lines answers w
    → is_version version ≡ true → Run Answers start (dumped version w.state) others v → AreTaken version others
    → IsRestarted version start w v others

-- the dump of a service's state is lines, and of the reply that tells it these lines are read
abbrev pub RepliesReadBack : Type 0
RepliesReadBack =
    (version : ℕ) (start w : World) (lines : List (List ℕ)) (answers : List Answer)
    → start.state ≡ emptied start.state → HasFewModules start.state → Run Answers start lines answers w → is_version version ≡ true
    → AllByRecursion NoNewline (dumped version w.state) × (texts_of (dump_text version w.state) ≡ Some (dumped version w.state))

-- whatever was asked of a service that held nothing at its start, some lines refused: a service with the same start
-- that is told the lines of what `dump` is answered then is made anew, under the same premises
abbrev pub RepliesRestart : Type 0
RepliesRestart =
    (version : ℕ) (start w v : World) (lines told : List (List ℕ)) (answers others : List Answer) (reply : List ℕ)
    → start.state ≡ emptied start.state → HasFewModules start.state → Run Answers start lines answers w
    → answered (dump_told (Some version) w.state) ≡ text reply → texts_of reply ≡ Some told
    → IsShortState w.state → AllByRecursion IsShortText told → Run Answers start told others v → AllByRecursion IsNoWant others
    → IsRestarted version start w v others

-- and by what is seen of it: it answers the first of these lines by its version and accepts each other
abbrev pub TakenRepliesRestart : Type 0
TakenRepliesRestart =
    (version : ℕ) (start w v : World) (lines told : List (List ℕ)) (answers others : List Answer) (reply : List ℕ)
    → start.state ≡ emptied start.state → HasFewModules start.state → Run Answers start lines answers w
    → answered (dump_told (Some version) w.state) ≡ text reply → texts_of reply ≡ Some told
    → Run Answers start told others v → AreTaken version others
    → IsRestarted version start w v others

-- a state in which nothing was ever held, listed or set is as one that is emptied, if the numbers of its modules can be
-- written
abbrev pub NewServicesAreEmpty : Type 0
NewServicesAreEmpty = (policies attributes : ℕ) (categories : List (List ℕ)) (limits : Limits) → policies ≤ 2 ^ 64 → attributes ≤ 2 ^ 64
    → let start = new_state policies attributes categories limits in (start ≡ emptied start) × HasFewModules start
