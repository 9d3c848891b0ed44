-- The difference of two tables.
use Rattle.std.specs.Prelude.{ℕ, List, ◌++◌, Bool, true, false, not, filter, length, Option, Some, None}
use Rattle.ent_request.specs.declared.answer.Answer.{Answer}
use Rattle.ent_request.specs.Same.{same_answer}
use Rattle.ent_table.specs.Names.{Triple, triples, is_listed}
use Rattle.ent_table.specs.State.{State, answer_at}

-- whether two optional answers are the same
abbrev pub same_optional : Option Answer → Option Answer → Bool
same_optional None None = true
same_optional (Some a) (Some b) = same_answer a b
same_optional _ _ = false

-- whether two tables have different optional answers for a request
abbrev pub differs : State → State → Triple → Bool
differs s t x = not (same_optional (answer_at s x) (answer_at t x))

-- the requests for which they have: those that t lists, and then those that s alone lists
abbrev pub difference : State → State → List Triple
difference s t = filter (differs s t) (triples t.names) ++ filter (λ x. not (is_listed t.names x)) (triples s.names)

-- how many there are
abbrev pub changes : State → State → ℕ
changes s t = length (difference s t)
