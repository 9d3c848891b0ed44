-- What is heard of an answer that is joined of what came of its tests.
use Rattle.std.specs.Prelude.{◌≡◌, List}
use Rattle.ent_request.specs.Looks.{Looks}
use Rattle.ent_request.specs.Questions.{AreNumbers, at_numbers}
use Rattle.ent_request.specs.declared.answer.Answer.{Answer}
use Rattle.ent_request.specs.declared.question.Question.{Question}
use Rattle.ent_request.specs.declared.request.Request.{Request}
use Rattle.ent_walk.specs.Answer.{answer_part}
use Rattle.memo_plan.specs.Heard.{Heard, heard}
use Rattle.memo_replay.specs.declared.joined.Joined.{Joined}

-- what is heard of it, over the questions that have a number
abbrev pub heard_joined : List Question → Joined → Heard Answer
heard_joined questions j = record { value = j.answer; gist = record { questions = at_numbers questions j.asked; failed = j.failed } }

-- this is heard of the answer to a request
pub record IsJoined (looks : Looks) (request : Request) (questions : List Question) (j : Joined) : Type 0 where
  pub within : AreNumbers questions j.asked
  pub is_heard : heard (answer_part looks request) ≡ heard_joined questions j
