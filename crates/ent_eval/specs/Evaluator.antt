-- An evaluator as plain data.
use Rattle.std.specs.Prelude.{◌≡◌, List, []}
use Rattle.ent_request.specs.declared.question.Question.{Question}
use Rattle.ent_eval.specs.Point.{Point}

-- the decision point, and the questions that were asked of it for listed requests, by number
pub record Evaluator : Type 0 where
  pub pdp : Point
  pub questions : List Question

-- one of a decision point, of which nothing was asked yet
abbrev pub evaluator_of : Point → Evaluator
evaluator_of pdp = record { pdp = pdp; questions = [] }

-- of a decision point only the count of evaluations changed
abbrev pub OnlyCounts : Point → Point → Type 0
OnlyCounts old new = new ≡ record old { evaluations = new.evaluations }
