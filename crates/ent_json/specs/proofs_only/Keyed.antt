-- Members of an object as they are written into a text.
use Rattle.std.specs.Prelude.{ℕ, List, [], ◌∷◌, Option, Some, None}
use Rattle.json.specs.Token as token
use Rattle.json.specs.Token.{Token}
use Rattle.serde_json.specs.Data.{Data}
use Rattle.ent_json.specs.Text.{tokens_of}

-- the tokens of a member that may be absent
abbrev pub optional_tokens : List ℕ → Option Data → List Token
optional_tokens key None = []
optional_tokens key (Some d) = token.key key ∷ tokens_of d
