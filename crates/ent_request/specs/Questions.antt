-- Questions by number, and the keys that are looked up for them.
use Rattle.std.specs.Prelude.{◌≡◌, ◌<◌, ℕ, List, [], ◌∷◌, ◌++◌, Bool, Option, get_or, length, map, position, if◌then◌else◌}
use Rattle.std.specs.List.{AllByRecursion, flat_map, list_any}
use Rattle.ent_request.specs.contracts.question.QuestionPartialEq.TheImpl as question
use Rattle.ent_request.specs.declared.key.ReadKey.{ReadKey}
use Rattle.ent_request.specs.declared.question.Question.{Question}
use Rattle.ent_request.specs.declared.question.Question.TheVariants.{Root}
use Rattle.ent_request.specs.declared.request.Request.{Request}
use Rattle.ent_request.specs.Noted.{noted}
use Rattle.ent_request.specs.Sources.{keys_of}

-- what `==` of two questions says
abbrev pub same_question : Question → Question → Bool
same_question = (question.ghosts).eq

-- whether a question is among these
abbrev pub is_asked : List Question → Question → Bool
is_asked questions question = list_any (same_question question) questions

-- questions, each once, in the order in which they were asked first, with one more
abbrev pub with_question : List Question → Question → List Question
with_question questions question = if is_asked questions question then questions else questions ++ question ∷ []

-- the same with several more
abbrev pub asked_once : List Question → List Question → List Question
asked_once questions [] = questions
asked_once questions (more ∷ others) = asked_once (with_question questions more) others

-- the number of a question: the place where it stands
abbrev pub number_of : List Question → Question → Option ℕ
number_of questions question = position (same_question question) questions

-- each of these is a question's number
abbrev pub AreNumbers : List Question → List ℕ → Type 0
AreNumbers questions numbers = AllByRecursion (λ n. n < length questions) numbers

-- the questions of these numbers
abbrev pub at_numbers : List Question → List ℕ → List Question
at_numbers questions numbers = map (λ n. get_or questions n Root) numbers

-- questions behind which others may stand: each has the number that it had
abbrev pub BeginsWith : List Question → List Question → Type 0
BeginsWith questions first = (more : List Question) × (questions ≡ first ++ more)

-- the keys that are looked up for questions of a request, each once, in their order
abbrev pub keys_at : Request → List Question → List ReadKey
keys_at request questions = noted [] (flat_map (keys_of request) questions)
