-- Where a name stands in its list, and where its cells stand.
use Rattle.std.specs.Prelude.{◌≡◌, ℕ, ◌*◌, List, ◌∷◌, ◌++◌, length, slice_get, Option, Some, None, false}
use Rattle.ent_cells.specs.declared.blocks.Blocks.{Blocks}
use Rattle.ent_table.specs.declared.edit.List.{List as Which}
use Rattle.ent_table.specs.declared.edit.List.TheVariants as which
use Rattle.ent_table.specs.declared.lists.Requests.{Requests}
use Rattle.ent_table.specs.Names.{Names, cell_count, has_name, others}

-- a name stands at a place of a list, and nowhere else
pub record StandsAt (name : List ℕ) (names : List (List ℕ)) (place : ℕ) : Type 0 where
  pub before : List (List ℕ)
  pub after : List (List ℕ)
  pub is : names ≡ before ++ name ∷ after
  pub here : length before ≡ place
  pub alone : others name names ≡ before ++ after

-- where a name stands, if its list has it
abbrev pub IsAt : List ℕ → List (List ℕ) → Option ℕ → Type 0
IsAt name names None = has_name name names ≡ false
IsAt name names (Some place) = slice_get names place ≡ Some name

-- a name was taken out of a list from its place, or wasn't there
abbrev pub IsTaken : List ℕ → List (List ℕ) → List (List ℕ) → Option ℕ → Type 0
IsTaken name old new None = (has_name name old ≡ false) × (new ≡ old)
IsTaken name old new (Some place) = StandsAt name old place × (new ≡ others name old)

-- where the cells of one name of a list stand
abbrev pub blocks_of : Which → Names → Blocks
blocks_of which.People names =
    record { count = 1; width = cell_count names; each = length names.actions * length names.resources }
blocks_of which.Actions names = record {
  count = length names.people;
  width = length names.actions * length names.resources;
  each = length names.resources;
}
blocks_of which.Resources names =
    record { count = length names.people * length names.actions; width = length names.resources; each = 1 }

-- the names of three lists that are lent
abbrev pub names_in : Requests → Names
names_in r = record { people = r.people.now; actions = r.actions.now; resources = r.resources.now }
