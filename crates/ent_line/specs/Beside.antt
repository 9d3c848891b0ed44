-- What a service answers by beside its world.
use Rattle.std.specs.Prelude.{ℕ, Option}
use Rattle.ent_table.specs.AnswerMap.{AnswerMap}

-- the number of evaluations so far, which `work` tells, and of each serial the table that edits left there, if it is
-- still known, from which `changes` tells what changed
pub record Beside : Type 0 where
  pub count : ℕ
  pub known : ℕ → Option AnswerMap
