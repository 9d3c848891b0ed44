-- What a service holds before its first line.
use Rattle.std.specs.Prelude.{ℕ, List, [], ◌∷◌}
use Rattle.std.specs.FinMap.{empty}
use Rattle.ent_finder.specs.Rows.{Source}
use Rattle.ent_request.specs.Uris as uris
use Rattle.ent_table.specs.declared.limits.Limits.{Limits}
use Rattle.ent_table.specs.State.{State}
use Rattle.law_rebuild.specs.Rebuilding.{new_state}
use Rattle.ent_report.specs.World.{World, unmarked}

-- the categories that a module of attributes supports: of who asks, of what it is done with, of what is done
abbrev pub categories : List (List ℕ)
categories = uris.access_subject ∷ uris.resource ∷ uris.action ∷ []

-- a module of attributes without rows
abbrev pub no_rows : Source
no_rows = record { categories = categories; rows = empty }

-- that many modules without rows, that many without documents, no root, nothing known of the time, no names, and those limits:
-- the state in which nothing was ever held, of which the law `new_services_are_empty` of law_restart speaks
abbrev pub state_at_start : Limits → ℕ → ℕ → State
state_at_start limits attributes policies = new_state policies attributes categories limits

-- the world with that state and no marks
abbrev pub start_of : Limits → ℕ → ℕ → World
start_of limits attributes policies = record { state = state_at_start limits attributes policies; marks = unmarked }
