-- Members of JSON objects that are written, of which some may be absent.
use Rattle.std.specs.Prelude.{ℕ, List, [], ◌∷◌, Option, Some, None}
use Rattle.serde_json.specs.Data as json
use Rattle.serde_json.specs.Data.{Data, Members, put}
use Rattle.serde_json.specs.View.{items_of}

-- an object that has one member
abbrev pub only_member : List ℕ → Data → Data
only_member key d = json.object (json.member key d json.no_members)

-- a member that may be absent, in front of the others
abbrev pub optional : List ℕ → Option Data → Members → Members
optional key None members = members
optional key (Some d) members = json.member key d members

-- a list, which is left out where it has no member
abbrev pub filled_list : List Data → Option Data
filled_list [] = None
filled_list (d ∷ ds) = Some (json.array (items_of (d ∷ ds)))

-- the members, with a value at the key if there is one
abbrev pub put_optional : List ℕ → Option Data → Members → Members
put_optional k None ms = ms
put_optional k (Some d) ms = put k d ms
