-- What any request is answered.
use Rattle.ent_walk.specs.Answer.{answer}
use Rattle.ent_request.specs.Held.{looks_in}
use Rattle.ent_request.specs.declared.answer.Answer.{Answer}
use Rattle.ent_request.specs.declared.request.Request.{Request}
use Rattle.ent_table.specs.State.{State}

-- the answer of a state to a request, listed or not, by what is held alone
abbrev pub answer_in : State → Request → Answer
answer_in s request = answer (looks_in s.held) request
