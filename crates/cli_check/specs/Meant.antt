-- What is said of the parts of a document that may not be meant.
use Rattle.std.specs.Prelude.{ℕ, List, [], ◌∷◌}
use Rattle.lint_messages.specs.Told.{IsPlaced}
use Rattle.lint_meaning.specs.declared.warning.Warning.{Warning}

-- a line for each part, which begins with its place
abbrev pub AreToldOf : List Warning → List (List ℕ) → Type 0
AreToldOf [] [] = Unit {0}
AreToldOf (warning ∷ warnings) (line ∷ lines) = IsPlaced warning.pointer line × AreToldOf warnings lines
AreToldOf _ _ = ⊥
