-- What is said of a place.
use Rattle.std.specs.Prelude.{ℕ, List}
use Rattle.lint_messages.specs.Told.{IsPlaced}

-- a text begins with the place, as a JSON pointer, and goes on for one line
abbrev pub IsToldAt : List ℕ → List ℕ → Type 0
IsToldAt = IsPlaced
