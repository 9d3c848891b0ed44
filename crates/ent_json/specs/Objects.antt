-- JSON objects: which keys they have, and what stands at a key.
use Rattle.std.specs.Prelude.{ℕ, ◌&&◌, ◌||◌, List, [], ◌∷◌, Bool, true, false, Option, Some, None, option_map, option_and_then, unwrap_or, is_some, bytes_eq}
use Rattle.serde_json.specs.Data as json
use Rattle.serde_json.specs.Data.{Data, Items, Members}
use Rattle.serde_json.specs.Find.{as_array, as_bool, as_object, as_str, get}

-- ---- keys

-- the key is one of these
abbrev pub among : List ℕ → List (List ℕ) → Bool
among k [] = false
among k (x ∷ xs) = bytes_eq x k || among k xs

-- no member has another key than these
abbrev pub only : List (List ℕ) → Members → Bool
only ks json.no_members = true
only ks (json.member k d ms) = among k ks && only ks ms

-- an object that has no other keys than these
abbrev pub has_only : List (List ℕ) → Data → Bool
has_only ks d = unwrap_or (option_map (only ks) (as_object d)) false

-- the member of an object that has just one: its key and its value
abbrev pub alone : Members → Option (List ℕ × Data)
alone json.no_members = None
alone (json.member k d json.no_members) = Some (k, d)
alone (json.member k d (json.member l e ms)) = None

-- the key and the value of an object that has one member
abbrev pub one_member : Data → Option (List ℕ × Data)
one_member d = option_and_then alone (as_object d)

-- ---- texts and flags

-- the text at a key
abbrev pub text_at : List ℕ → Data → Option (List ℕ)
text_at k d = option_and_then as_str (get k d)

-- nothing stands at the key, or else a text
abbrev pub text_or_absent : List ℕ → Data → Bool
text_or_absent k d = unwrap_or (option_map (λ v. is_some (as_str v)) (get k d)) true

-- a flag, which is false where it is absent
abbrev pub flag_or_false : Option Data → Option Bool
flag_or_false None = Some false
flag_or_false (Some d) = as_bool d

-- the flag at a key, false where the key is absent
abbrev pub flag_at : List ℕ → Data → Option Bool
flag_at k d = flag_or_false (get k d)

-- ---- lists

-- a list, which is empty where it is absent
abbrev pub list_or_empty : Option Data → Option Items
list_or_empty None = Some json.no_items
list_or_empty (Some d) = as_array d

-- the list at a key, empty where the key is absent
abbrev pub list_at : List ℕ → Data → Option Items
list_at k d = list_or_empty (get k d)

-- a list that has a member
abbrev pub filled : Items → Option Items
filled json.no_items = None
filled (json.item d ds) = Some (json.item d ds)

-- the list at a key, which is there and has a member
abbrev pub filled_list_at : List ℕ → Data → Option Items
filled_list_at k d = option_and_then filled (list_at k d)
