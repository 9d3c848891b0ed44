-- Where JSON isn't what is expected: the places, as JSON pointers (RFC 6901), and what is told of each.
use Rattle.std.specs.Prelude.{ℕ, ◌+◌, ◌==◌, Bool, true, false, List, [], ◌∷◌, ◌++◌, Option, Some, None, codes, decimal, is_some, option_map, unwrap_or, if◌then◌else◌}
use Rattle.std.specs.List.{flat_map}
use Rattle.serde_json.specs.Data.{Data, null, boolean, number, string, array, object, Items, no_items, item, Members, no_members, member}
use Rattle.serde_json.specs.Find.{as_array, as_object, get, get_member}
use Rattle.ent_json.specs.Line.{data_of}
use Rattle.script_matching.specs.Matching.{any_item, fits}
use Rattle.script_matching.specs.Told.{another, needless, nothing, unlike}

-- a byte of a key as it stands in a JSON pointer (RFC 6901)
abbrev pub escaped_byte : ℕ → List ℕ
escaped_byte byte = if byte == 126 then codes "~0" else if byte == 47 then codes "~1" else byte ∷ []

-- the place of a key below a place
abbrev pub below : List ℕ → List ℕ → List ℕ
below place key = place ++ (codes "/" ++ flat_map escaped_byte key)

-- what is told of a place, unless what is expected stands there
abbrev pub unless : Bool → List ℕ → List (List ℕ)
unless stands told = if stands then [] else told ∷ []

-- the members of an object whose keys aren't expected
abbrev pub unexpected : List ℕ → Members → Members → List (List ℕ)
unexpected place es no_members = []
unexpected place es (member k d ds) = unless (is_some (get_member k es)) (needless (below place k) d) ++ unexpected place es ds

-- the members that are expected from a number on, of which none of a list's members has any as a part
abbrev pub missing : ℕ → List ℕ → Items → Items → List (List ℕ)
missing n place no_items ds = []
missing n place (item e es) ds = unless (any_item (fits false e) ds) (unlike (below place (decimal n)) e) ++ missing (n + 1) place es ds

-- What is told of the places, below a place, at which data isn't what is expected: where the whole is wanted, also of those of keys and of
-- members of lists that aren't expected, of which the first is told; else, of a list, of those of the members that are expected and aren't there.
abbrev mutual
  pub places : Bool → List ℕ → Data → Data → List (List ℕ)
  places whole place null d = unless (fits whole null d) (another place null d)
  places whole place (boolean b) d = unless (fits whole (boolean b) d) (another place (boolean b) d)
  places whole place (number n) d = unless (fits whole (number n) d) (another place (number n) d)
  places whole place (string s) d = unless (fits whole (string s) d) (another place (string s) d)
  places whole place (array es) d =
      if whole then unwrap_or (option_map (item_places 0 place es) (as_array d)) (another place (array es) d ∷ [])
      else unwrap_or (option_map (missing 0 place es) (as_array d)) (another place (array es) d ∷ [])
  places whole place (object es) d =
      if is_some (as_object d)
      then member_places whole place es d ++ (if whole then unwrap_or (option_map (unexpected place es) (as_object d)) [] else [])
      else another place (object es) d ∷ []

  pub item_places : ℕ → List ℕ → Items → Items → List (List ℕ)
  item_places n place no_items no_items = []
  item_places n place no_items (item d ds) = needless (below place (decimal n)) d ∷ []
  item_places n place (item e es) no_items = nothing (below place (decimal n)) e ∷ []
  item_places n place (item e es) (item d ds) = places true (below place (decimal n)) e d ++ item_places (n + 1) place es ds

  pub member_places : Bool → List ℕ → Members → Data → List (List ℕ)
  member_places whole place no_members d = []
  member_places whole place (member k e es) d =
      unwrap_or (option_map (places whole (below place k) e) (get k d)) (nothing (below place k) e ∷ []) ++ member_places whole place es d

-- what is told of the members of a list that aren't those that are expected
abbrev pub list_places : Bool → List ℕ → Items → Items → List (List ℕ)
list_places whole place es ds = if whole then item_places 0 place es ds else missing 0 place es ds

-- what is told of the members of an object whose keys aren't expected, where the whole is wanted
abbrev pub unexpected_if : Bool → List ℕ → Members → Members → List (List ℕ)
unexpected_if whole place es ds = if whole then unexpected place es ds else []

-- what is told of the places at which the second isn't what is expected, if both are there
abbrev pub both_places : Bool → Option Data → Option Data → List (List ℕ)
both_places whole (Some e) (Some d) = places whole [] e d
both_places _ _ _ = []

-- what is told of the places at which a text isn't what is expected, where both texts are JSON
abbrev pub places_in : Bool → List ℕ → List ℕ → List (List ℕ)
places_in whole expected text = both_places whole (data_of expected) (data_of text)
