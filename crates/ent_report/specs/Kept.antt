-- Which tables of earlier serials a desk still has after a call.
use Rattle.std.specs.Prelude.{◌≡◌, ◌≤◌, Result, Ok, Err}
use Rattle.ent_table.specs.Tables.{IsFreshAtSerial, KeepsTables, LeavesTables}
use Rattle.ent_report.specs.Desk.{Desked, review_of}
use Rattle.ent_report.specs.Serials.{mark_serials, oldest}

-- none is forgotten: as many are known as before, and each stays what it was
abbrev pub Keeps : Desked → Desked → Type 0
Keeps old new = KeepsTables (review_of old) (review_of new)

-- those before the oldest mark are forgotten, or where there is none those before the present one; each of the others
-- stays what it was, and the present one is the fresh one
pub record Forgets (old new : Desked) : Type 0 where
  pub from : new.past.from ≡ oldest (mark_serials new.world) new.world.state.serial
  pub later : old.past.from ≤ new.past.from
  pub left : LeavesTables (review_of old) (review_of new)
  pub now : IsFreshAtSerial (review_of new)

-- what is done forgets what is from before the oldest mark, and what is refused forgets nothing
abbrev pub Remembers : {X E : Type 0} → Desked → Desked → Result X E → Type 0
Remembers old new (Ok x) = Forgets old new
Remembers old new (Err fault) = Keeps old new
