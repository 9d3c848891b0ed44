-- Parts of JSON values as they are written into a text.
use Rattle.std.specs.Prelude.{List}
use Rattle.json.specs.Token.{Token}
use Rattle.json.specs.Tree.{items_tokens}
use Rattle.serde_json.specs.Data.{Data}
use Rattle.serde_json.specs.View.{items_of}
use Rattle.serde_json.specs.Written.{items_outline}

-- the tokens of the items of a list, to its end
abbrev pub items_tokens_of : List Data → List Token
items_tokens_of ds = items_tokens (items_outline (items_of ds))
