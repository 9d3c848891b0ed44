-- Versions, piece by piece: words of the code's own contracts.
use Rattle.std.specs.Prelude.{◌≡◌, ℕ, ◌∷◌, List, ◌==◌, Option, Some, if◌then◌else◌, take, ◌≤◌}
use Rattle.ent_policy.specs.Versions.{dotted_of}

-- the first of these parts, which are 8 at most, are what the text spells
abbrev pub IsSpelledBy : {A : Type 0} → (List ℕ → Option A) → List ℕ → List A × ℕ → Type 0
IsSpelledBy piece text found = (found.1 ≤ 8) × (dotted_of piece text ≡ Some (take found.1 found.0))

-- a piece in front of which a dot stands unless it is the first
abbrev pub behind_dot : ℕ → List ℕ → List ℕ
behind_dot place piece = if place == 0 then piece else (46 ∷ piece)
