-- Places in the one module that holds all documents.
use Rattle.ent_policy.specs.declared.key.DocKey.{DocKey}
use Rattle.lint_reach.specs.declared.place.DocPlace.{DocPlace}

-- the place of a key
abbrev pub place_of : DocKey → DocPlace
place_of key = record { number = 0; key = key }
