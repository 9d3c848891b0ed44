-- The bytes of a text that is written a token at a time.
use Rattle.std.specs.Prelude.{◌≡◌, ℕ, List, [], ◌∷◌, ◌++◌, Bool, IsUtf8, cond, decimal}
use Rattle.json.specs.Print.{ArePrintable, ends_value, print}
use Rattle.json.specs.Token.{Token}

-- a comma, where one stands between two values
abbrev pub comma_if : Bool → List ℕ
comma_if comma = cond comma (44 ∷ []) []

-- the bytes are those of some tokens, and the flag tells whether they leave a value just ended
pub record IsWritten (bytes : List ℕ) (after_value : Bool) : Type 0 where
  pub written : List Token
  pub printable : ArePrintable written
  pub text : bytes ≡ print written
  pub place : after_value ≡ ends_value written
  pub utf8 : IsUtf8 bytes

-- the text of numbers with a point before each
abbrev pub others_text : List ℕ → List ℕ
others_text [] = []
others_text (n ∷ ns) = 46 ∷ (decimal n ++ others_text ns)
