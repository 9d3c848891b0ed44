-- A review that is split over several by its people.
use Rattle.std.specs.Prelude.{◌≡◌, ℕ, ◌<◌, Bool, true, List, filter, length, nat_eq, Some, Ok, slice_get}
use Rattle.ent_table.specs.declared.edit.Edit.{Edit}
use Rattle.ent_table.specs.declared.edit.Edit.TheVariants.{AddName, DropName}
use Rattle.ent_table.specs.declared.edit.List.TheVariants as which
use Rattle.ent_table.specs.Doubles.{HasNoDoubles}
use Rattle.ent_table.specs.State.{State}
use Rattle.law_rebuild.specs.Rebuilding.{stepped}

-- whether a person is of the part of that number
abbrev pub is_of : (List ℕ → ℕ) → ℕ → List ℕ → Bool
is_of part_of number person = nat_eq (part_of person) number

-- a part holds what the whole does and lists the same, but of the people only its own, in the whole's order
pub record IsPart (is_own : List ℕ → Bool) (whole part : State) : Type 0 where
  pub held : part.held ≡ whole.held
  pub people : part.names.people ≡ filter is_own whole.names.people
  pub actions : part.names.actions ≡ whole.names.actions
  pub resources : part.names.resources ≡ whole.names.resources

-- each person, listed or not, is of one of the parts, and the whole lists no name twice. What was accepted and what the
-- limits are, each has of its own
pub record IsSplit (part_of : List ℕ → ℕ) (whole : State) (parts : List State) : Type 0 where
  pub placed : (person : List ℕ) → part_of person < length parts
  pub once : HasNoDoubles whole.names
  pub each : (number : ℕ) (part : State) → slice_get parts number ≡ Some part → IsPart (is_of part_of number) whole part

-- ---- edits

-- whether a part is told an edit: of those that add or drop a person only where she is its own
abbrev pub is_told : (List ℕ → Bool) → Edit → Bool
is_told is_own (AddName which.People person) = is_own person
is_told is_own (DropName which.People person) = is_own person
is_told is_own edit = true

-- what it is told of several edits
abbrev pub told : (List ℕ → Bool) → List Edit → List Edit
told is_own edits = filter (is_told is_own) edits

-- each of several reviews was told its edits in their order and accepted them all
pub record AreLed (part_of : List ℕ → ℕ) (edits : List Edit) (starts parts : List State) : Type 0 where
  pub as_many : length parts ≡ length starts
  pub each : (number : ℕ) (start part : State)
      → slice_get starts number ≡ Some start → slice_get parts number ≡ Some part
      → stepped start (told (is_of part_of number) edits) ≡ Ok part
