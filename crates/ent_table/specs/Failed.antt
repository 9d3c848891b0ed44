-- Of which requests of the table a part failed.
use Rattle.std.specs.Prelude.{List, Bool, map}
use Rattle.ent_walk.specs.Answer.{has_cause}
use Rattle.ent_request.specs.Held.{looks_in}
use Rattle.ent_request.specs.Listed.{listed}
use Rattle.ent_request.specs.declared.answer.Answer.{Answer}
use Rattle.ent_table.specs.Names.{Triple}
use Rattle.ent_table.specs.State.{State, table_of}

-- a part of the answer to a request came to Indeterminate by itself, whatever the decision
abbrev pub has_failed : State → Triple → Bool
has_failed s x = has_cause (looks_in s.held) (listed x.person x.action x.resource)

-- each cell of the fresh table, in list order, with whether a part of it failed
abbrev pub judged : State → List ((Triple × Answer) × Bool)
judged s = map (λ c. (c, has_failed s c.0)) (table_of s)
