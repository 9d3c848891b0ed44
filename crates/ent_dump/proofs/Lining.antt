-- A line that was written by itself is a text of the reply.
use Rattle.std.proofs.Common.{◌≡◌, ◌++◌, ◌∙◌, List, [], ◌∷◌, ap, OnOk, Result, Ok, Err}
use Rattle.json.specs.Print.{print}
use Rattle.json.specs.Token as token
use Rattle.json.specs.Token.{Token}
use Rattle.serde_json.specs.Data.{Data}
use Rattle.serde_json.specs.Written.{compact_text}
use Rattle.ent_json.specs.Text.{tokens_of}
use Rattle.ent_json.proofs.TextLemmas.{printed}

-- the text of what was written into an empty text
pub text_written : (d : Data) (empty line : List Token) → empty ≡ [] → line ≡ empty ++ tokens_of d → print line ≡ compact_text d
text_written d empty line start end = ap print (end ∙ ap (λ ts. ts ++ tokens_of d) start) ∙ printed d

-- put behind others
pub line_written : {E : Type 0} (r : Result (Unit {0}) E) (old new : List Token) (d : Data) (empty line : List Token) → empty ≡ [] → line ≡ empty ++ tokens_of d
    → OnOk r (new ≡ old ++ token.string (print line) ∷ []) → OnOk r (new ≡ old ++ token.string (compact_text d) ∷ [])
line_written (Ok done) old new d empty line start end put = put ∙ ap (λ t. old ++ token.string t ∷ []) (text_written d empty line start end)
line_written (Err e) old new d empty line start end put = put
