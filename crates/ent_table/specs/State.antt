-- What a review holds, and the table that it stands for.
use Rattle.std.specs.Prelude.{ℕ, List, map, Option, Some, None, if◌then◌else◌}
use Rattle.ent_cells.specs.Cell.{Kept, cell_of}
use Rattle.ent_request.specs.declared.answer.Answer.{Answer}
use Rattle.ent_walk.specs.Answer.{answer}
use Rattle.ent_request.specs.Held.{Held, looks_in}
use Rattle.ent_request.specs.Listed.{listed}
use Rattle.ent_request.specs.Looks.{Looks}
use Rattle.std.specs.List.{zip}
use Rattle.ent_table.specs.declared.limits.Limits.{Limits}
use Rattle.ent_table.specs.Names.{Names, Triple, triples, is_listed, no_names}

-- what is held, the three lists, how many edits were accepted, and the limits
pub record State : Type 0 where
  pub held : Held
  pub names : Names
  pub serial : ℕ
  pub limits : Limits

-- the answer to a request of the table, by what is looked up
abbrev pub answer_by : Looks → Triple → Answer
answer_by looks t = answer looks (listed t.person t.action t.resource)

-- the answer to one, evaluated afresh in a state
abbrev pub answer_to : State → Triple → Answer
answer_to s t = answer_by (looks_in s.held) t

-- the fresh table: every listed request evaluated afresh, in list order
abbrev pub fresh : State → List Answer
fresh s = map (answer_to s) (triples s.names)

-- the cells of the fresh table: of every listed request the answer to it and the look-ups that this rests on, in list
-- order
abbrev pub fresh_cells : State → List Kept
fresh_cells s = map (cell_of (looks_in s.held)) (triples s.names)

-- the answer that a table has for a request: none where it isn't listed
abbrev pub answer_at : State → Triple → Option Answer
answer_at s t = if is_listed s.names t then Some (answer_to s t) else None

-- a state with no names, at serial 0
abbrev pub initial : Held → Limits → State
initial held limits = record { held = held; names = no_names; serial = 0; limits = limits }

-- each listed request with its fresh answer, in list order
abbrev pub table_of : State → List (Triple × Answer)
table_of s = zip (triples s.names) (fresh s)
