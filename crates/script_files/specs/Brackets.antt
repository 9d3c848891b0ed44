-- What a text between « and » stands for.
use Rattle.std.specs.Prelude.{ℕ, ◌+◌, ◌*◌, ◌-◌, ◌&&◌, ◌==◌, nat_le, List, [], ◌∷◌, ◌++◌, Option, Some, None, if◌then◌else◌}
use Rattle.std.specs.List.{flat_map, range_with_len}
use Rattle.script_files.specs.Cut.{cut}
use Rattle.script_files.specs.Numbers.{leading_number, number_mark, numbered}

-- the value of a hexadecimal digit, the letters from A to F
abbrev pub digit_of : ℕ → Option ℕ
digit_of byte =
    if nat_le 48 byte && nat_le byte 57 then Some (byte - 48)
    else (if nat_le 65 byte && nat_le byte 70 then Some (byte - 55) else None)

-- the byte that two digits of these values write, other than a newline
abbrev pub byte_with : Option ℕ → Option ℕ → Option ℕ
byte_with (Some high) (Some low) = if high * 16 + low == 10 then None else Some (high * 16 + low)
byte_with (Some high) None = None
byte_with None low = None

-- the byte that two hexadecimal digits write
abbrev pub byte_of : List ℕ → Option ℕ
byte_of [] = None
byte_of (high ∷ []) = None
byte_of (high ∷ low ∷ []) = byte_with (digit_of high) (digit_of low)
byte_of (high ∷ low ∷ next ∷ more) = None

-- a text at a time, of which these are the parts between its №, with a separator in front but for the first time
abbrev pub copy : List ℕ → List (List ℕ) → ℕ → List ℕ
copy separator parts time = (if time == 0 then [] else separator) ++ numbered time parts

-- so many copies of a text, numbered from 0, with a separator between them
abbrev pub copies : ℕ → List ℕ → List (List ℕ) → List ℕ
copies count separator parts = flat_map (copy separator parts) (range_with_len 0 count)

-- the copies that a number and the text behind it ask for: N*TEXT, or N,TEXT for commas between them
abbrev pub copies_of : Option (ℕ × List ℕ) → Option (List ℕ)
copies_of None = None
copies_of (Some (count, [])) = None
copies_of (Some (count, sign ∷ text)) =
    if sign == 42 then Some (copies count [] (cut number_mark text))
    else (if sign == 44 then Some (copies count (44 ∷ []) (cut number_mark text)) else None)

-- a byte that was found, or else copies
abbrev pub byte_or_copies : Option ℕ → List ℕ → Option (List ℕ)
byte_or_copies (Some byte) inside = Some (byte ∷ [])
byte_or_copies None inside = copies_of (leading_number inside)

-- what a text between « and » stands for, if it has one of the forms
abbrev pub inside_of : List ℕ → Option (List ℕ)
inside_of inside = byte_or_copies (byte_of inside) inside
