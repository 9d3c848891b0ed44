-- Version patterns, and the versions that they accept (section 5.13).
use Rattle.std.specs.Prelude.{◌≡◌, ◌↔◌, ℕ, [], ◌∷◌, ◌++◌, List, IsTrue, Bool, true, false, not, ◌==◌, ◌&&◌, Option, Some, None, bytes_eq, codes, if◌then◌else◌, length, map, nat_lt, nat_le, option_and_then, option_map}
use Rattle.std.specs.List.{list_all, join_with_byte}
use Rattle.std.specs.Fmt.{decimal}
use Rattle.std.specs.Ordering.{nat_cmp, ordering_then}
use Rattle.std.specs.declared.cmp.Ordering.{Ordering}
use Rattle.std.specs.declared.cmp.Ordering.TheVariants.{Less, Equal, Greater}
use Rattle.ent_policy.specs.declared.pattern.PatternPart.{PatternPart}
use Rattle.ent_policy.specs.declared.pattern.PatternPart.TheVariants.{Number, Any, More}
use Rattle.ent_policy.specs.Versions.{dotted_of, number_of}

-- ---- the written form

-- a part of a pattern: `*`, `+`, or a number
abbrev pub part_of : List ℕ → Option PatternPart
part_of piece =
    if bytes_eq piece (codes "*") then Some Any
    else if bytes_eq piece (codes "+") then Some More
    else option_map Number (number_of piece)

-- a part is `+`
abbrev pub is_more : PatternPart → Bool
is_more More = true
is_more part = false

-- `+` stands last, where it stands
abbrev pub more_is_last : List PatternPart → Bool
more_is_last [] = true
more_is_last (part ∷ []) = true
more_is_last (part ∷ next ∷ parts) = not (is_more part) && more_is_last (next ∷ parts)

-- the parts, where `+` stands last
abbrev pub ending_right : List PatternPart → Option (List PatternPart)
ending_right parts = if more_is_last parts then Some parts else None

-- the parts of a text, which are 1 to 8 with dots between them
unfoldable pub pattern_of : List ℕ → Option (List PatternPart)
pattern_of text = option_and_then ending_right (dotted_of part_of text)

-- the text of a part
abbrev pub part_text : PatternPart → List ℕ
part_text (Number n) = decimal n
part_text Any = codes "*"
part_text More = codes "+"

-- the text of a pattern
abbrev pub pattern_text : List PatternPart → List ℕ
pattern_text parts = join_with_byte 46 (map part_text parts)

-- a number of a part has at most 9 digits
abbrev pub is_part : PatternPart → Bool
is_part (Number n) = nat_lt n 1000000000
is_part part = true

-- what a pattern is: 1 to 8 parts, each number of at most 9 digits, and `+` last
abbrev pub is_pattern : List PatternPart → Bool
is_pattern parts = nat_lt 0 (length parts) && nat_le (length parts) 8 && list_all is_part parts && more_is_last parts

-- the text of a pattern reads as that pattern
abbrev pub PatternsReadBack : Type 0
PatternsReadBack = (parts : List PatternPart) → IsTrue (is_pattern parts) → pattern_of (pattern_text parts) ≡ Some parts

-- ---- what a pattern accepts

-- a number matches itself, `*` any one number, and `+` one number or more
abbrev pub matches : List PatternPart → List ℕ → Bool
matches [] [] = true
matches (More ∷ parts) (n ∷ numbers) = true
matches (Any ∷ parts) (n ∷ numbers) = matches parts numbers
matches (Number m ∷ parts) (n ∷ numbers) = (m == n) && matches parts numbers
matches parts numbers = false

-- a version beside a pattern, number by number: `*` is equal to any number, and `+` ends the comparison as equal. A version that ends
-- before the pattern is earlier, and one that goes on behind it is later.
abbrev pub beside : List ℕ → List PatternPart → Ordering
beside [] [] = Equal
beside [] (part ∷ parts) = Less
beside (n ∷ numbers) [] = Greater
beside (n ∷ numbers) (More ∷ parts) = Equal
beside (n ∷ numbers) (Any ∷ parts) = beside numbers parts
beside (n ∷ numbers) (Number m ∷ parts) = ordering_then (nat_cmp n m) (beside numbers parts)

-- ---- laws

-- a pattern of numbers alone accepts the version of these numbers, and no other
abbrev pub NumbersAcceptThemselves : Type 0
NumbersAcceptThemselves = (numbers version : List ℕ) → (matches (map Number numbers) version ≡ true) ↔ (version ≡ numbers)

-- `*` accepts any one number in its place
abbrev pub AnyAcceptsOneNumber : Type 0
AnyAcceptsOneNumber = (before after : List ℕ) (rest : List PatternPart) (n : ℕ)
    → matches (map Number before ++ Any ∷ rest) (before ++ n ∷ after) ≡ matches rest after

-- `+` accepts what begins with the numbers before it and goes on, and nothing else
abbrev pub MoreAcceptsWhatGoesOn : Type 0
MoreAcceptsWhatGoesOn = (before version : List ℕ)
    → (matches (map Number before ++ More ∷ []) version ≡ true) ↔ ((n : ℕ) × (after : List ℕ) × (version ≡ before ++ n ∷ after))
