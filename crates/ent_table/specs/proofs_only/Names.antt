-- Places and numbers of names.
use Rattle.std.specs.Prelude.{◌≡◌, ℕ, Bool, List, [], ◌∷◌, ◌++◌, true, false, slice_get, Option, Some, None}
use Rattle.ent_table.specs.declared.edit.List.{List as Which}
use Rattle.ent_table.specs.State.{State}
use Rattle.ent_table.specs.Step.{exceeds}
use Rattle.ent_table.specs.Names.{Names, Triple, cell_count, is_listed, triples, with_name}

-- whether any name more would exceed a limit
abbrev pub Exceeds : State → Which → Bool → Type 0
Exceeds s list answer = (name : List ℕ) → answer ≡ exceeds s list name

-- the last of some names is taken away
abbrev pub TakesLastName : List (List ℕ) → List (List ℕ) → Type 0
TakesLastName old new = (before : List (List ℕ)) (name : List ℕ) → old ≡ before ++ name ∷ [] → new ≡ before

-- the last name of a list is taken away
abbrev pub TakesLast : Which → Names → Names → Type 0
TakesLast list old new = (before : Names) (name : List ℕ) → old ≡ with_name list name before → new ≡ before

-- where a request stands in list order, if it is listed
abbrev pub IsPlace : Names → Triple → Option ℕ → Type 0
IsPlace names t None = is_listed names t ≡ false
IsPlace names t (Some place) = (is_listed names t ≡ true) × (slice_get (triples names) place ≡ Some t)

-- how many cells there are with any name more in a list
abbrev pub CountsWith : Which → Names → ℕ → Type 0
CountsWith list names count = (name : List ℕ) → count ≡ cell_count (with_name list name names)
