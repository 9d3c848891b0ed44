-- What is written a token at a time is the text of a value.
use Rattle.std.proofs.Common.{◌≡◌}
use Rattle.json.specs.Print.{print}
use Rattle.serde_json.specs.Data.{Data}
use Rattle.serde_json.specs.Written.{compact_text}
use Rattle.serde_json.proofs.Texts.{print-outline}
use Rattle.ent_json.specs.Text.{tokens_of}

-- the text of a value's tokens
pub printed : (d : Data) → print (tokens_of d) ≡ compact_text d
printed = print-outline
