-- Whether two answers or two keys of look-ups are the same, and that these tests decide it.
use Rattle.std.specs.Prelude.{◌≡◌, Bool}
use Rattle.std.specs.Bool.{Decides}
use Rattle.ent_request.specs.declared.answer.Answer.{Answer}
use Rattle.ent_request.specs.declared.key.ReadKey.{ReadKey}
use Rattle.ent_request.specs.contracts.answer.AnswerPartialEq.TheImpl as answers
use Rattle.ent_request.specs.contracts.key.ReadKeyPartialEq.TheImpl as keys

-- what `==` of two answers says
abbrev pub same_answer : Answer → Answer → Bool
same_answer = (answers.ghosts).eq

-- it says whether they are equal
abbrev pub SameAnswerIsEqual : Type 0
SameAnswerIsEqual = (a b : Answer) → Decides (same_answer a b) (a ≡ b)

-- what `==` of two keys says
abbrev pub same_key : ReadKey → ReadKey → Bool
same_key = (keys.ghosts).eq

-- it says whether they are equal
abbrev pub SameKeyIsEqual : Type 0
SameKeyIsEqual = (a b : ReadKey) → Decides (same_key a b) (a ≡ b)
