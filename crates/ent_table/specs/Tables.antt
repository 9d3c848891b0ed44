-- The tables at serials: what the kept log and the present cells give.
use Rattle.std.specs.Prelude.{◌≡◌, ℕ, ◌+◌, ◌≤◌, ◌↔◌, List, map, false}
use Rattle.std.specs.FinMap.{get}
use Rattle.std.specs.List.{Contains}
use Rattle.std.specs.List.Sorted.{IsStrictlySortedBy}
use Rattle.ent_cells.specs.Order.{request_order}
use Rattle.ent_eval.specs.declared.who.Who.{Who}
use Rattle.ent_request.specs.declared.answer.Answer.{Answer}
use Rattle.ent_request.specs.Same.{same_answer}
use Rattle.ent_log.specs.Entries.{answers_of as logged_answers, entries_since}
use Rattle.ent_log.specs.Maps.{map_before, map_difference}
use Rattle.ent_log.specs.Tables.{IsClosed, KeepsTables as KeepsBefore}
use Rattle.ent_log.specs.declared.change.LoggedChange.{LoggedChange as Logged}
use Rattle.ent_log.specs.declared.entry.OldAnswer.{OldAnswer}
use Rattle.ent_log.specs.declared.log.Log.{Log}
use Rattle.ent_table.specs.declared.since.Change.{Change}
use Rattle.ent_table.specs.AnswerMap.{AnswerMap, answers_of}
use Rattle.ent_table.specs.Difference.{same_optional}
use Rattle.ent_table.specs.Names.{Triple, triple_of}
use Rattle.ent_table.specs.Reviewed.{Reviewed}
use Rattle.ent_table.specs.State.{State, answer_at}

-- the table at a serial: the present one with the answers that changed since then put back
abbrev pub table_at_serial : Reviewed → ℕ → AnswerMap
table_at_serial r n =
    map_before request_order (logged_answers (entries_since n r.past.logged)) (answers_of r.state)

-- the table at each serial so far stays what it was, and as many are known as before
pub record KeepsTables (old new : Reviewed) : Type 0 where
  pub from : new.past.from ≡ old.past.from
  pub each : (n : ℕ) → n ≤ old.state.serial → table_at_serial new n ≡ table_at_serial old n

-- the table at each serial so far that is still known stays what it was
abbrev pub LeavesTables : Reviewed → Reviewed → Type 0
LeavesTables old new =
    (n : ℕ) → new.past.from ≤ n → n ≤ old.state.serial → table_at_serial new n ≡ table_at_serial old n

-- the table at the present serial is the fresh one
abbrev pub IsFreshAtSerial : Reviewed → Type 0
IsFreshAtSerial r = table_at_serial r r.state.serial ≡ answers_of r.state

-- ---- what changed

-- a change of an answer, with the three names of its request
abbrev pub change_of : Logged Who Answer → Change Answer
change_of c = record {
  person = c.key.person;
  action = c.key.action;
  resource = c.key.resource;
  before = c.before;
  after = c.after;
}

-- the difference of a table and that of a state: each request to which they give different answers, once, in byte
-- order, with both
abbrev pub changes_from : AnswerMap → State → List (Change Answer)
changes_from m s = map change_of (map_difference same_answer m (answers_of s))

-- the request of a change
abbrev pub changed_request : Change Answer → Triple
changed_request c = triple_of c.person c.action c.resource

-- a table and that of a state have different optional answers to the request of a change, and its answers are these two
pub record IsChange (m : AnswerMap) (s : State) (c : Change Answer) : Type 0 where
  pub differ : same_optional (get m (changed_request c)) (answer_at s (changed_request c)) ≡ false
  pub before : c.before ≡ get m (changed_request c)
  pub after : c.after ≡ answer_at s (changed_request c)

-- a list is the difference of a table and that of a state: the changes that they have, and no others; their requests
-- ascend strictly in byte order, so each is there once
pub record AreTheDifference (m : AnswerMap) (s : State) (changes : List (Change Answer)) : Type 0 where
  pub exact : (c : Change Answer) → Contains changes c ↔ IsChange m s c
  pub ascending : IsStrictlySortedBy request_order (map changed_request changes)

-- ---- what is logged

-- an edit is logged by old answers, and counted
pub record Logs (olds : List (OldAnswer Who Answer)) (old new : Log Who Answer) : Type 0 where
  pub from : new.from ≡ old.from
  pub serial : new.serial ≡ old.serial + 1
  pub closed : IsClosed new
  pub kept : KeepsBefore request_order olds old new
