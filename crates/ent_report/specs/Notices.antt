-- Notices: the difference of a table that was marked and the present one.
use Rattle.std.specs.Prelude.{List, map, Option, option_map}
use Rattle.ent_combine.specs.declared.outcome.Outcome.{Outcome}
use Rattle.ent_request.specs.declared.answer.Answer.{Answer}
use Rattle.ent_table.specs.AnswerMap.{AnswerMap}
use Rattle.ent_table.specs.State.{State}
use Rattle.ent_table.specs.Tables.{changes_from}
use Rattle.ent_table.specs.declared.since.Change.{Change}

-- the decision of an answer, none where there is none
abbrev pub decision_in : Option Answer → Option Outcome
decision_in answer = option_map (λ a. a.decision) answer

-- the notice of a change: its request with the decisions of both answers
abbrev pub notice_of : Change Answer → Change Outcome
notice_of c = record { person = c.person; action = c.action; resource = c.resource; before = decision_in c.before; after = decision_in c.after }

-- the difference of a table and the present one: a notice of each request to which they give different answers, in byte
-- order (`Differing` has the law that they are)
abbrev pub notices : AnswerMap → State → List (Change Outcome)
notices m s = map notice_of (changes_from m s)
