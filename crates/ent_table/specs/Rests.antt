-- What the answer to any request rests on.
use Rattle.std.specs.Prelude.{List}
use Rattle.ent_walk.specs.Answer.{causes_told, recorded}
use Rattle.ent_request.specs.Held.{looks_in}
use Rattle.ent_request.specs.declared.cause.Cause.{Cause}
use Rattle.ent_request.specs.declared.key.ReadKey.{ReadKey}
use Rattle.ent_request.specs.declared.request.Request.{Request}
use Rattle.ent_table.specs.State.{State}

-- the look-ups that it rests on, each once
abbrev pub recorded_in : State → Request → List ReadKey
recorded_in s request = recorded (looks_in s.held) request

-- the parts that came to Indeterminate by themselves: that of an Indeterminate answer, then the others in order
abbrev pub causes_in : State → Request → List Cause
causes_in s request = causes_told (looks_in s.held) request
