-- The written form of versions (section 5.12).
use Rattle.std.specs.Prelude.{◌≡◌, ℕ, [], ◌∷◌, List, IsTrue, Bool, ◌==◌, ◌&&◌, Option, Some, None, if◌then◌else◌, length, map, nat_lt, nat_le, option_map}
use Rattle.std.specs.List.{list_all, slice_split, join_with_byte}
use Rattle.std.specs.Char.{is_ascii_digit}
use Rattle.std.specs.Fmt.{decimal}
use Rattle.std.specs.Str.Parse.{digits_value}

-- a number of a version: 1 to 9 decimal digits
abbrev pub is_number : List ℕ → Bool
is_number piece = nat_lt 0 (length piece) && nat_le (length piece) 9 && list_all is_ascii_digit piece

-- its value
abbrev pub number_of : List ℕ → Option ℕ
number_of piece = if is_number piece then Some (digits_value 10 piece) else None

-- what stands between the dots
abbrev pub pieces : List ℕ → List (List ℕ)
pieces text = slice_split (λ b. b == 46) text

-- all, if each is there
abbrev pub all_there : {A : Type 0} → List (Option A) → Option (List A)
all_there [] = Some []
all_there (None ∷ others) = None
all_there (Some x ∷ others) = option_map (λ xs. x ∷ xs) (all_there others)

-- what a text spells that has at most 8 pieces with dots between them, where `piece` says what each spells
abbrev pub dotted_of : {A : Type 0} → (List ℕ → Option A) → List ℕ → Option (List A)
dotted_of piece text = if nat_le (length (pieces text)) 8 then all_there (map piece (pieces text)) else None

-- the numbers of a text, which are at most 8 with dots between them
unfoldable pub version_of : List ℕ → Option (List ℕ)
version_of text = dotted_of number_of text

-- the text of a version: its numbers in decimal, with dots between them
abbrev pub version_text : List ℕ → List ℕ
version_text numbers = join_with_byte 46 (map decimal numbers)

-- what a version is: 1 to 8 numbers, each of at most 9 digits
abbrev pub is_version : List ℕ → Bool
is_version numbers = nat_lt 0 (length numbers) && nat_le (length numbers) 8 && list_all (λ n. nat_lt n 1000000000) numbers

-- the text of a version reads as that version
abbrev pub TextReadsBack : Type 0
TextReadsBack = (numbers : List ℕ) → IsTrue (is_version numbers) → version_of (version_text numbers) ≡ Some numbers
