-- What an evaluation of a listed request says.
use Rattle.std.specs.Prelude.{◌≡◌, List, []}
use Rattle.ent_eval.specs.declared.pdp.ListedEvaluation.{ListedEvaluation}
use Rattle.ent_request.specs.declared.question.Question.{Question}
use Rattle.ent_request.specs.declared.request.Request.{Request}
use Rattle.ent_request.specs.Looks.{Looks}
use Rattle.ent_request.specs.Questions.{AreNumbers, asked_once, at_numbers}
use Rattle.ent_walk.specs.Answer.{answer, asked, has_cause}

-- an evaluation has the answer to a request, the numbers of the questions that are asked for it, and whether a part of it failed
pub record IsEvaluated (looks : Looks) (questions : List Question) (request : Request) (e : ListedEvaluation) : Type 0 where
  pub answer : e.answer ≡ answer looks request
  pub asked : at_numbers questions e.asked ≡ asked_once [] (asked looks request)
  pub within : AreNumbers questions e.asked
  pub failed : e.failed ≡ has_cause looks request
