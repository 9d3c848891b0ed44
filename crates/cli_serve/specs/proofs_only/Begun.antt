-- What a service begins with, whatever holds its values and documents.
use Rattle.std.specs.Prelude.{List}
use Rattle.ent_finder.specs.Rows.{Source}
use Rattle.ent_finder.specs.Slots.{Slots}
use Rattle.ent_eval.specs.LooksOf.{held_by}
use Rattle.ent_eval.specs.Point.{point_of}
use Rattle.ent_table.specs.declared.limits.Limits.{Limits}
use Rattle.ent_table.specs.State.{initial}
use Rattle.ent_report.specs.World.{World, unmarked}

-- what the modules hold, no root, nothing known of the time, no names, those limits, and no marks
abbrev pub begun : Limits → List Source → List Slots → World
begun limits sources slots = record { state = initial (held_by (point_of sources slots)) limits; marks = unmarked }
