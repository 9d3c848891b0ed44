-- A text and its lines.
use Rattle.std.specs.Prelude.{◌≡◌, ◌≢◌, ℕ, List, [], ◌∷◌, ◌++◌, All}
use Rattle.std.specs.List.{flat_map}

-- the most bytes that a line may have
abbrev pub line_limit : ℕ
line_limit = 1048576

-- no byte of these is a newline
abbrev pub NoNewline : List ℕ → Type 0
NoNewline bytes = All (λ b. b ≢ 10) bytes

-- a line with its newline
abbrev pub ended : List ℕ → List ℕ
ended line = line ++ 10 ∷ []

-- these bytes are one line with its newline
abbrev pub IsOneLine : List ℕ → Type 0
IsOneLine bytes = (line : List ℕ) × NoNewline line × (bytes ≡ ended line)

-- the text is these lines, each with its newline, and then a rest without one
pub record Splits (text : List ℕ) (lines : List (List ℕ)) (rest : List ℕ) : Type 0 where
  pub whole : text ≡ flat_map ended lines ++ rest
  pub each : All NoNewline lines
  pub open_end : NoNewline rest

-- a text is lines and a rest in one way
abbrev pub HasOneSplit : Type 0
HasOneSplit = (text : List ℕ) (ls ms : List (List ℕ)) (r s : List ℕ) → Splits text ls r → Splits text ms s → (ls ≡ ms) × (r ≡ s)
