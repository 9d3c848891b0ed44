-- What is written a token at a time is the text of a value.
use Rattle.std.proofs.Common.{◌≡◌, List, [], ◌++◌, ◌∙◌, ap, append_assoc, Result, Ok, Err, OnOk}
use Rattle.json.specs.Print.{print}
use Rattle.json.specs.Token.{Token}
use Rattle.serde_json.specs.Data.{Data}
use Rattle.serde_json.specs.Written.{compact_text}
use Rattle.ent_json.specs.Text.{tokens_of}
use Rattle.ent_json.proofs.TextLemmas as text

-- the text of a value's tokens
pub printed : (d : Data) → print (tokens_of d) ≡ compact_text d
printed = text.printed

-- the text of a value that was written into an empty text
pub written : (d : Data) (empty out : List Token) → empty ≡ [] → out ≡ empty ++ tokens_of d → print out ≡ compact_text d
written d empty out start end = ap print (end ∙ ap (λ ts. ts ++ tokens_of d) start) ∙ printed d

-- what is appended in two steps is appended
pub joined : {A : Type 0} (old x y a b : List A) → x ≡ old ++ a → y ≡ x ++ b → y ≡ old ++ (a ++ b)
joined old x y a b first second = second ∙ ap (λ s. s ++ b) first ∙ append_assoc old a b

-- the same where the second step may be refused
pub ends : {A E : Type 0} (r : Result (Unit {0}) E) (old x y a b : List A) → x ≡ old ++ a → OnOk r (y ≡ x ++ b) → OnOk r (y ≡ old ++ (a ++ b))
ends (Ok u) old x y a b first second = joined old x y a b first second
ends (Err e) old x y a b first second = second

-- the same where what was appended is also said otherwise
pub ends_as : {A E : Type 0} (r : Result (Unit {0}) E) (old x y a b whole : List A) → a ++ b ≡ whole → x ≡ old ++ a → OnOk r (y ≡ x ++ b) → OnOk r (y ≡ old ++ whole)
ends_as (Ok u) old x y a b whole is first second = joined old x y a b first second ∙ ap (λ s. old ++ s) is
ends_as (Err e) old x y a b whole is first second = second
