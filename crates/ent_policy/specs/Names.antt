-- Identifiers.
use Rattle.std.specs.Prelude.{ℕ, List, Bool, ◌==◌, ◌||◌, Option, Some, None, if◌then◌else◌, length, nat_lt}

-- an identifier has 1 to 256 bytes
abbrev pub is_bad_name : List ℕ → Bool
is_bad_name name = (length name == 0) || nat_lt 256 (length name)

-- the name that a text is
abbrev pub name_of : List ℕ → Option (List ℕ)
name_of text = if is_bad_name text then None else Some text
