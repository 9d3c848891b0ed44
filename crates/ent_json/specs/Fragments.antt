-- Text that stands in front of a value or a member, such as `{"path":`, and what it stands for.
use Rattle.std.specs.Prelude.{ℕ, List, [], ◌∷◌, ◌&&◌, Bool, true, false, bytes_eq, not}
use Rattle.std.specs.List.{list_all}
use Rattle.json.specs.Lex.{tokens}
use Rattle.json.specs.Print.{begins, ends_value, print}
use Rattle.json.specs.Token.{Token, begin_object, end_object, begin_array, end_array, key, string, number, boolean, null, bad}

-- the token is none of a number, and none of a fault
abbrev pub is_fixed : Token → Bool
is_fixed begin_object = true
is_fixed end_object = true
is_fixed begin_array = true
is_fixed end_array = true
is_fixed (key s) = true
is_fixed (string s) = true
is_fixed (number s) = false
is_fixed (boolean b) = true
is_fixed null = true
is_fixed bad = false

-- the first begins a value or a member, and behind the last one a value or a member is to come
abbrev pub is_front : List Token → Bool
is_front [] = false
is_front (t ∷ ts) = begins t && not (ends_value (t ∷ ts)) && list_all is_fixed (t ∷ ts)

-- a text as the tokens that are read from it are written
abbrev pub is_fragment : List ℕ → Bool
is_fragment text = is_front (tokens text) && bytes_eq (print (tokens text)) text
