-- What is written into a text a token at a time.
use Rattle.std.specs.Prelude.{List, [], Option, Some, None}
use Rattle.json.specs.Token as token
use Rattle.json.specs.Token.{Token}
use Rattle.serde_json.specs.Data.{Data}
use Rattle.ent_json.specs.Text.{tokens_of}

-- the tokens of a value, if there is one
abbrev pub tokens_if_any : Option Data → List Token
tokens_if_any None = []
tokens_if_any (Some d) = tokens_of d
