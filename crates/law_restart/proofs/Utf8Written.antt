-- What is written of UTF-8 texts is UTF-8.
use Rattle.std.proofs.Common.{◌≡◌, ℕ, zero, suc, ◌<◌, ◌/◌, ◌%◌, pos, negsuc, List, [], ◌∷◌, ◌++◌, Bool, true, false, ◌==◌, Option, Some, None, refl, subst, arith, IsUtf8}
use Rattle.std.specs.Prelude.{if◌then◌else◌, option_map}
use Rattle.std.specs.Fmt.{decimal, digit_glyph, digits, digits_onto}
use Rattle.std.specs.List.{AllByRecursion, join_with_byte}
use Rattle.std.proofs.lemmas.Bool.Decides.{nat_tests}
use Rattle.std.proofs.lemmas.Str.{IsUtf8-append, IsUtf8-encode, IsUtf8-nil, encode_ascii}
use lib.Utf8.{low_scalar}
use Rattle.json.proofs.Printed.Utf8.{IsUtf8-are_ascii, IsUtf8-boolean, IsUtf8-quoted, are_ascii}
use Rattle.json.specs.Print.{quoted}
use Rattle.serde_json.specs.Data as json
use Rattle.serde_json.specs.Data.{Data, Items, Members, Num, put}
use Rattle.serde_json.specs.View.{items_of}
use Rattle.serde_json.specs.Written.{comma_if, compact_text, items_text, members_text, number_text}
use Rattle.ent_json.specs.Members.{filled_list, only_member, optional, put_optional}
use Rattle.law_restart.proofs.Utf8Data.{AreUtf8Items, AreUtf8Members, IfThere, IsUtf8Data, put_utf8}

-- ---- numbers

-- bytes of ASCII
pub byte_utf8 : (x : ℕ) → x < 128 → IsUtf8 (x ∷ [])
byte_utf8 x small = subst IsUtf8 (encode_ascii x small) (IsUtf8-encode x (low_scalar x (omega arith)))

pub more_utf8 : (x : ℕ) (xs : List ℕ) → x < 128 → IsUtf8 xs → IsUtf8 (x ∷ xs)
more_utf8 x xs small u = IsUtf8-append (x ∷ []) xs (byte_utf8 x small) u

glyph_small : (n : ℕ) → digit_glyph false (n % 10) < 128
glyph_small n = grind (arith, nat_tests)

onto_utf8 : (k n : ℕ) (rest : List ℕ) → IsUtf8 rest → IsUtf8 (digits_onto k 10 false n rest)
onto_utf8 zero n rest u = u
onto_utf8 (suc k) n rest u = by (n / 10 == 0) (onto_utf8 k (n / 10) (digit_glyph false (n % 10) ∷ rest))
  where
    by : (b : Bool) → (IsUtf8 (digit_glyph false (n % 10) ∷ rest) → IsUtf8 (digits_onto k 10 false (n / 10) (digit_glyph false (n % 10) ∷ rest)))
        → IsUtf8 (if b then digit_glyph false (n % 10) ∷ rest else digits_onto k 10 false (n / 10) (digit_glyph false (n % 10) ∷ rest))
    by true more = more_utf8 (digit_glyph false (n % 10)) rest (glyph_small n) u
    by false more = more (more_utf8 (digit_glyph false (n % 10)) rest (glyph_small n) u)

pub decimal_utf8 : (n : ℕ) → IsUtf8 (decimal n)
unfolding digits
decimal_utf8 n = onto_utf8 64 n [] IsUtf8-nil

pub joined_utf8 : (pieces : List (List ℕ)) → AllByRecursion IsUtf8 pieces → IsUtf8 (join_with_byte 46 pieces)
joined_utf8 [] h = IsUtf8-nil
joined_utf8 (x ∷ []) h = h.0
joined_utf8 (x ∷ y ∷ pieces) h = IsUtf8-append x (46 ∷ join_with_byte 46 (y ∷ pieces)) h.0 (more_utf8 46 (join_with_byte 46 (y ∷ pieces)) (omega arith) (joined_utf8 (y ∷ pieces) h.1))

number_utf8 : (n : Num) → IsUtf8 (number_text n)
number_utf8 (json.unsigned n) = decimal_utf8 n
number_utf8 (json.negative (pos n)) = decimal_utf8 n
number_utf8 (json.negative (negsuc n)) = more_utf8 45 (decimal (suc n)) (omega arith) (decimal_utf8 (suc n))
number_utf8 (json.float x) = IsUtf8-nil

-- ---- the compact text

comma_utf8 : (later : Bool) → IsUtf8 (comma_if later)
comma_utf8 true = byte_utf8 44 (omega arith)
comma_utf8 false = IsUtf8-nil

mutual
  pub compact_utf8 : (d : Data) → IsUtf8Data d → IsUtf8 (compact_text d)
  compact_utf8 json.null h = IsUtf8-are_ascii _ refl
  compact_utf8 (json.boolean b) h = IsUtf8-boolean b
  compact_utf8 (json.number n) h = number_utf8 n
  compact_utf8 (json.string s) h = IsUtf8-quoted s h
  compact_utf8 (json.array ds) h = more_utf8 91 (items_text false ds) (omega arith) (items_utf8 false ds h)
  compact_utf8 (json.object ms) h = more_utf8 123 (members_text false ms) (omega arith) (members_utf8 false ms h)

  items_utf8 : (later : Bool) (ds : Items) → AreUtf8Items ds → IsUtf8 (items_text later ds)
  items_utf8 later json.no_items h = byte_utf8 93 (omega arith)
  items_utf8 later (json.item d ds) h =
      IsUtf8-append (comma_if later) (compact_text d ++ items_text true ds) (comma_utf8 later) (IsUtf8-append (compact_text d) (items_text true ds) (compact_utf8 d h.0) (items_utf8 true ds h.1))

  members_utf8 : (later : Bool) (ms : Members) → AreUtf8Members ms → IsUtf8 (members_text later ms)
  members_utf8 later json.no_members h = byte_utf8 125 (omega arith)
  members_utf8 later (json.member k d ms) h =
      IsUtf8-append (comma_if later) (quoted k ++ 58 ∷ (compact_text d ++ members_text true ms)) (comma_utf8 later)
      (IsUtf8-append (quoted k) (58 ∷ (compact_text d ++ members_text true ms)) (IsUtf8-quoted k h.0)
      (more_utf8 58 (compact_text d ++ members_text true ms) (omega arith) (IsUtf8-append (compact_text d) (members_text true ms) (compact_utf8 d h.1) (members_utf8 true ms h.2))))

-- ---- objects and lists

-- the members of an object by their keys, which are ASCII, and of which some may be absent
abbrev pub built : List (List ℕ × Option Data) → Members
built [] = json.no_members
built (p ∷ ps) = optional p.0 p.1 (built ps)

abbrev pub AreBuiltUtf8 : List (List ℕ × Option Data) → Type 0
AreBuiltUtf8 = AllByRecursion (λ p. (are_ascii p.0 ≡ true) × IfThere IsUtf8Data p.1)

optional_utf8 : (key : List ℕ) (o : Option Data) (ms : Members) → are_ascii key ≡ true → IfThere IsUtf8Data o → AreUtf8Members ms → AreUtf8Members (optional key o ms)
optional_utf8 key None ms ascii here rest = rest
optional_utf8 key (Some d) ms ascii here rest = (IsUtf8-are_ascii key ascii, here, rest)

members_built : (ps : List (List ℕ × Option Data)) → AreBuiltUtf8 ps → AreUtf8Members (built ps)
members_built [] h = tt
members_built (p ∷ ps) h = optional_utf8 p.0 p.1 (built ps) h.0.0 h.0.1 (members_built ps h.1)

pub object_utf8 : (ps : List (List ℕ × Option Data)) → AreBuiltUtf8 ps → IsUtf8Data (json.object (built ps))
object_utf8 ps h = members_built ps h

pub only_utf8 : (key : List ℕ) (d : Data) → are_ascii key ≡ true → IsUtf8Data d → IsUtf8Data (only_member key d)
only_utf8 key d ascii h = (IsUtf8-are_ascii key ascii, h, tt)

pub put_optional_utf8 : (key : List ℕ) (o : Option Data) (ms : Members) → are_ascii key ≡ true → IfThere IsUtf8Data o → AreUtf8Members ms → AreUtf8Members (put_optional key o ms)
put_optional_utf8 key None ms ascii here rest = rest
put_optional_utf8 key (Some d) ms ascii here rest = put_utf8 key d ms (IsUtf8-are_ascii key ascii) here rest

pub list_written : (ds : List Data) → AllByRecursion IsUtf8Data ds → IsUtf8Data (json.array (items_of ds))
list_written [] h = tt
list_written (d ∷ ds) h = (h.0, list_written ds h.1)

pub filled_written : (ds : List Data) → AllByRecursion IsUtf8Data ds → IfThere IsUtf8Data (filled_list ds)
filled_written [] h = tt
filled_written (d ∷ ds) h = list_written (d ∷ ds) h

pub maybe_string : (o : Option (List ℕ)) → IfThere IsUtf8 o → IfThere IsUtf8Data (option_map json.string o)
maybe_string None h = tt
maybe_string (Some s) h = h
