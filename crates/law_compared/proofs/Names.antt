-- The text of three names tells them.
use Rattle.std.proofs.Common.{◌≡◌, ℕ, List, [], ◌∷◌, sym, ap, ◌∙◌}
use Rattle.json.specs.Lex.{tokens}
use Rattle.json.specs.Token as token
use Rattle.json.specs.Token.{Token}
use Rattle.json.specs.Tree.{json_tokens}
use Rattle.json.proofs.Printed.Tokens.{tokens-print}
use Rattle.json.proofs.Printed.Trees.{ArePrintable-json_tokens}
use Rattle.serde_json.specs.Data as json
use Rattle.serde_json.specs.Data.{Data}
use Rattle.serde_json.specs.View.{items_of}
use Rattle.serde_json.specs.Written.{outline}
use Rattle.serde_json.proofs.Texts.{print-outline}
use Rattle.script_compare.specs.Tables.{names_text}

-- the list of three names
abbrev named : List ℕ → List ℕ → List ℕ → Data
named p a r = json.array (items_of (json.string p ∷ json.string a ∷ json.string r ∷ []))

names_tokens : (p a r : List ℕ) → tokens (names_text p a r) ≡ json_tokens (outline (named p a r))
unfolding names_text
names_tokens p a r = ap tokens (sym (print-outline (named p a r)))
    ∙ tokens-print (json_tokens (outline (named p a r)))
    (ArePrintable-json_tokens (outline (named p a r)) (tt, (tt, (tt, tt))))

same_three : (p a r q b s : List ℕ)
    → token.begin_array ∷ token.string p ∷ token.string a ∷ token.string r ∷ token.end_array
    ∷ [] ≡ token.begin_array ∷ token.string q ∷ token.string b ∷ token.string s ∷ token.end_array ∷ []
    → (p ≡ q) × ((a ≡ b) × (r ≡ s))
same_three p a r q b s h = (cc, (cc, cc))

-- names with the same text are the same
pub names_told : (p a r q b s : List ℕ) → names_text p a r ≡ names_text q b s → (p ≡ q) × ((a ≡ b) × (r ≡ s))
names_told p a r q b s h = same_three p a r q b s (sym (names_tokens p a r) ∙ ap tokens h ∙ names_tokens q b s)
