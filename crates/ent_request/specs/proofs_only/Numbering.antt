-- Questions that are kept as numbers: where they stand among distinct questions.
use Rattle.std.specs.Prelude.{ℕ, ◌<◌, ◌≤◌, List, length}
use Rattle.std.specs.List.{AllByRecursion, IsDistinct}
use Rattle.ent_request.specs.declared.question.Question.{Question}
use Rattle.ent_request.specs.Questions.{same_question}
pub use Rattle.ent_request.specs.Questions.{at_numbers}

-- no two questions are the same, and each number is one's
pub record IsNumbering (questions : List Question) (numbers : List ℕ) : Type 0 where
  pub distinct : IsDistinct same_question questions
  pub within : AllByRecursion (λ n. n < length questions) numbers

-- no two questions are the same, and there aren't more than there are numbers
pub record AreNumbered (questions : List Question) : Type 0 where
  pub distinct : IsDistinct same_question questions
  pub few : length questions ≤ 4294967296
