-- The table as a finite map.
use Rattle.std.specs.FinMap.{FinMap, from_entries}
use Rattle.ent_cells.specs.Order.{request_order}
use Rattle.ent_request.specs.declared.answer.Answer.{Answer}
use Rattle.ent_table.specs.State.{State, table_of}

-- for each listed request its answer
abbrev pub AnswerMap : Type 0
AnswerMap = FinMap request_order Answer

-- the fresh table of a state
abbrev pub answers_of : State → AnswerMap
answers_of s = from_entries (table_of s)
