-- What is written straight into a text, a token at a time.
use Rattle.std.specs.Prelude.{ℕ, List, [], ◌∷◌, ◌++◌, Option}
use Rattle.json.specs.Token as token
use Rattle.json.specs.Token.{Token}
use Rattle.serde_json.specs.Data as json
use Rattle.serde_json.specs.Data.{Data, Members}
use Rattle.ent_json.specs.Members.{optional}
use Rattle.ent_json.specs.proofs_only.Keyed.{optional_tokens}

-- a key, and what stands at it, if it is there
abbrev pub Part : Type 0
Part = List ℕ × Option Data

-- the members of an object, of which some may be absent
abbrev pub parts : List Part → Members
parts [] = json.no_members
parts (p ∷ ps) = optional p.0 p.1 (parts ps)

-- their tokens, to the end of the object
abbrev pub parts_tokens : List Part → List Token
parts_tokens [] = token.end_object ∷ []
parts_tokens (p ∷ ps) = optional_tokens p.0 p.1 ++ parts_tokens ps
