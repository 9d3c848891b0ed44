-- What a review is, to those who call it.
use Rattle.std.specs.Prelude.{ℕ, List}
use Rattle.ent_eval.specs.declared.who.Who.{Who}
use Rattle.ent_request.specs.declared.answer.Answer.{Answer}
use Rattle.ent_log.specs.declared.entry.Logged.{Logged}
use Rattle.ent_table.specs.State.{State}

-- what is known of the tables before the present one: from which serial on, and the answers that changed since then
pub record Past : Type 0 where
  pub from : ℕ
  pub logged : List (Logged Who Answer)

-- a state, what is known of the tables before it, and how many times a request was evaluated
pub record Reviewed : Type 0 where
  pub state : State
  pub past : Past
  pub evaluations : ℕ
