use Rattle.ent_log.specs.Entries.{answers_of, entries_since}
use Rattle.ent_log.proofs.MapsBefore.{get-map_before, maps-are_left, maps-stay}
use Rattle.ent_log.proofs.law.maps_stay.Goals as goal

pub returns-clause-tables : goal.returns-clause-tables
returns-clause-tables g c = λ log present n k. get-map_before g.met.K.Ord.total (answers_of (entries_since n log.entries.items)) present k

pub returns-clause-stay : goal.returns-clause-stay
returns-clause-stay g c = maps-stay g.met.K.Ord.total

pub returns-clause-left : goal.returns-clause-left
returns-clause-left g c = maps-are_left g.met.K.Ord.total
