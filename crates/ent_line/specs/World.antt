-- What a service answers by, as its desk has it: a world, and what stands beside it.
use Rattle.ent_report.specs.Desk.{Desked}
use Rattle.ent_report.specs.Known.{known_of}
use Rattle.ent_line.specs.Beside.{Beside}
use Rattle.ent_line.specs.Step.{Counted}

-- the number of evaluations, and the tables that are known, each by its serial
abbrev pub beside_of : Desked → Beside
beside_of d = record { count = d.evaluations; known = known_of d }

-- the world and what stands beside it
abbrev pub counted_of : Desked → Counted
counted_of d = record { world = d.world; beside = beside_of d }
