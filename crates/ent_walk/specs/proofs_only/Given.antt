-- What an element gives, part by part: words of the code's own contracts.
use Rattle.std.specs.Prelude.{List, Option, Some, None, Result, Ok, Err}
use Rattle.ent_request.specs.declared.answer.Status.{Status}
use Rattle.ent_request.specs.Part.{Part}
use Rattle.ent_walk.specs.Given.{joined}

-- what stands already, and what one more part gives
abbrev pub joined_with : {A : Type 0} → List A → Part (Result (List A) Status) → Result (List A) Status
joined_with before part = joined (Ok before) part.value

-- a list to which something was added, unless that was Indeterminate
abbrev pub added : {A : Type 0} → List A → Option Status → Result (List A) Status
added xs None = Ok xs
added xs (Some status) = Err status
