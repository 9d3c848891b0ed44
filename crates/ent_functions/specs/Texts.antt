-- Functions of strings (appendix A.3.9), which are compared byte by byte.
use Rattle.std.specs.Prelude.{ℕ, ◌-◌, Bool, List, [], ◌∷◌, take, drop, length, flat_map, bytes_eq}
use Rattle.std.specs.List.{list_any}

-- the text begins with that part
abbrev pub begins_with : List ℕ → List ℕ → Bool
begins_with part text = bytes_eq part (take (length part) text)

-- the text ends with it
abbrev pub ends_with : List ℕ → List ℕ → Bool
ends_with part text = bytes_eq part (drop (length text - length part) text)

-- the text itself, and what is left of it without its first byte, its first two ..
abbrev pub tails : List ℕ → List (List ℕ)
tails [] = [] ∷ []
tails (byte ∷ text) = (byte ∷ text) ∷ tails text

-- the part stands somewhere in the text
abbrev pub has_part : List ℕ → List ℕ → Bool
has_part part text = list_any (λ tail. begins_with part tail) (tails text)

-- the texts one after the other
abbrev pub joined : List (List ℕ) → List ℕ
joined texts = flat_map (λ text. text) texts
