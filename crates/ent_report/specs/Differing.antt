-- The law of the notices: they are the difference of a table that was marked and the present one, and as many as an
-- edit from the one to the other tells.
use Rattle.std.specs.Prelude.{◌≡◌, ◌↔◌, length, map, false}
use Rattle.std.specs.FinMap.{get}
use Rattle.std.specs.List.{Contains}
use Rattle.std.specs.List.Sorted.{IsStrictlySortedBy}
use Rattle.ent_cells.specs.Order.{request_order}
use Rattle.ent_table.specs.AnswerMap.{AnswerMap, answers_of}
use Rattle.ent_table.specs.Difference.{changes, difference, same_optional}
use Rattle.ent_table.specs.Doubles.{HasNoDoubles}
use Rattle.ent_table.specs.Names.{Triple, triple_of}
use Rattle.ent_table.specs.State.{State, answer_at}
use Rattle.ent_report.specs.Notices.{decision_in, notices}
use Rattle.ent_table.specs.declared.since.Change.{Change}
use Rattle.ent_combine.specs.declared.outcome.Outcome.{Outcome}

-- the request of a notice
abbrev pub request_of : Change Outcome → Triple
request_of n = triple_of n.person n.action n.resource

-- a table and that of a state have different optional answers to the request of a notice, and its decisions are those
-- of the two answers
pub record TellsDifference (m : AnswerMap) (s : State) (n : Change Outcome) : Type 0 where
  pub differ : same_optional (get m (request_of n)) (answer_at s (request_of n)) ≡ false
  pub before : n.before ≡ decision_in (get m (request_of n))
  pub after : n.after ≡ decision_in (answer_at s (request_of n))

-- the notices that tell a difference are there, and no others
abbrev pub TellAllDifferences : AnswerMap → State → Type 0
TellAllDifferences m s = (n : Change Outcome) → Contains (notices m s) n ↔ TellsDifference m s n

-- their requests ascend strictly in byte order, so each is there once
abbrev pub AscendInBytes : AnswerMap → State → Type 0
AscendInBytes m s = IsStrictlySortedBy request_order (map request_of (notices m s))

-- where the table of s was marked, the notices at t have the requests of the difference of s and t
abbrev pub HaveTheRequests : State → State → Type 0
HaveTheRequests s t = (x : Triple) → Contains (map request_of (notices (answers_of s) t)) x ↔ Contains (difference s t) x

-- there are as many as an edit from s to t tells
abbrev pub AreAsMany : State → State → Type 0
AreAsMany s t = HasNoDoubles s.names → HasNoDoubles t.names → length (notices (answers_of s) t) ≡ changes s t

-- all this, of every table and every state
abbrev pub NoticesAreTheDifference : Type 0
NoticesAreTheDifference = ((m : AnswerMap) (s : State) → TellAllDifferences m s × AscendInBytes m s) × ((s t : State) → HaveTheRequests s t × AreAsMany s t)
