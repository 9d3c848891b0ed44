-- Marks by the serials at which they were made, and the oldest of them.
use Rattle.std.specs.Prelude.{ℕ, List, [], ◌∷◌, map, min, Option, Some, None, option_map}
use Rattle.ent_table.specs.Tables.{table_at_serial}
use Rattle.ent_table.specs.Reviewed.{Reviewed}
use Rattle.ent_report.specs.World.{Mark, World}

-- the serial of each session's mark
abbrev pub mark_serials : World → List (Option ℕ)
mark_serials w = map (option_map (λ (m : Mark). m.serial)) w.marks

-- the oldest mark, or the serial where there is none
abbrev pub oldest : List (Option ℕ) → ℕ → ℕ
oldest [] serial = serial
oldest (None ∷ marks) serial = oldest marks serial
oldest (Some n ∷ marks) serial = min n (oldest marks serial)

-- the mark that was made at a serial
abbrev pub mark_at : Reviewed → ℕ → Mark
mark_at review n = record { serial = n; table = table_at_serial review n }
