-- A text, cut where a mark stands.
use Rattle.std.specs.Prelude.{ℕ, zero, suc, ◌-◌, Bool, List, [], ◌∷◌, length, take, drop, bytes_eq, Option, Some, None, option_map, if◌then◌else◌}
use Rattle.std.specs.List.{onto_first}

-- a text begins with a mark
abbrev pub begins : List ℕ → List ℕ → Bool
begins mark text = bytes_eq (take (length mark) text) mark

-- a byte in front of the first of two texts
abbrev pub in_front : ℕ → List ℕ × List ℕ → List ℕ × List ℕ
in_front byte parts = (byte ∷ parts.0, parts.1)

-- what stands before the first place of a mark in a text, and what stands behind it
abbrev pub split_once : List ℕ → List ℕ → Option (List ℕ × List ℕ)
split_once mark [] = None
split_once mark (byte ∷ text) =
    if begins mark (byte ∷ text) then Some ([], drop (length mark) (byte ∷ text)) else option_map (in_front byte) (split_once mark text)

-- passes over so many bytes of a text, and cuts the rest at each place where a mark stands
abbrev pub cut_behind : List ℕ → ℕ → List ℕ → List (List ℕ)
cut_behind mark skip [] = [] ∷ []
cut_behind mark zero (byte ∷ text) =
    if begins mark (byte ∷ text) then [] ∷ cut_behind mark (length mark - 1) text else onto_first byte (cut_behind mark 0 text)
cut_behind mark (suc skip) (byte ∷ text) = cut_behind mark skip text

-- the parts of a text between the places where a mark stands
abbrev pub cut : List ℕ → List ℕ → List (List ℕ)
cut mark text = cut_behind mark 0 text
