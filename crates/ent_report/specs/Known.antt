-- The tables that a desk still knows.
use Rattle.std.specs.Prelude.{ℕ, ◌||◌, if◌then◌else◌, nat_lt, Option, Some, None}
use Rattle.ent_table.specs.AnswerMap.{AnswerMap}
use Rattle.ent_table.specs.Tables.{table_at_serial}
use Rattle.ent_report.specs.Desk.{Desked, review_of}

-- the table at a serial, which is known from the oldest mark on
abbrev pub known_of : Desked → ℕ → Option AnswerMap
known_of d n =
    if nat_lt n d.past.from || nat_lt d.world.state.serial n then None else Some (table_at_serial (review_of d) n)
