-- What questions found for the names of listed requests, and is remembered.
use Rattle.std.specs.Prelude.{◌≡◌, ◌<◌, ℕ, List, Some, length, slice_get}
use Rattle.std.specs.List.{AllByRecursion, IsDistinct}
use Rattle.ent_values.specs.Bags.{Contents}
use Rattle.ent_values.specs.Same.{same_bag}
use Rattle.memo_bags.specs.declared.finding.Finding.{Finding}
use Rattle.memo_bags.specs.declared.findings.Findings.{Findings}
use Rattle.memo_bags.specs.declared.names.NameRows.{NameRows}
use Rattle.memo_bags.specs.declared.names.NameRow.{NameRow}
use Rattle.ent_request.specs.declared.question.Question.{Question}
use Rattle.ent_request.specs.declared.readers.NamePlace.{NamePlace}
use Rattle.ent_request.specs.declared.readers.NamePlace.TheVariants.{Person, Action, Resource}
use Rattle.ent_request.specs.Looks.{Looks}
use Rattle.memo_bags.specs.Found.{FindsIn, place_of}

-- a finding is of a question about that name, and of a bag that is there
abbrev pub IsFinding : List Question → List Contents → Finding → Type 0
IsFinding questions bags f = (f.bag < length bags) × ((x : Question) × ((slice_get questions f.question ≡ Some x) × (place_of x ≡ Some f.place)))

-- what stands in a row is what questions about its place find for its name
abbrev pub IsRow : Looks → List Question → List Contents → NamePlace → NameRow → Type 0
IsRow looks questions bags place row = (question bag : ℕ) → slice_get row.found.items question ≡ Some (Some bag)
    → FindsIn looks questions bags place row.name question bag

-- each row is one of its place's names, and no two bags are the same
pub record AreFindings (looks : Looks) (questions : List Question) (findings : Findings) : Type 0 where
  pub distinct : IsDistinct same_bag findings.bags
  pub people : AllByRecursion (IsRow looks questions findings.bags Person) findings.people.rows.items
  pub actions : AllByRecursion (IsRow looks questions findings.bags Action) findings.actions.rows.items
  pub resources : AllByRecursion (IsRow looks questions findings.bags Resource) findings.resources.rows.items

-- the row at a place is that of a name
abbrev pub StandsAt : List NameRow → ℕ → List ℕ → Type 0
StandsAt rows i name = (row : NameRow) × ((slice_get rows i ≡ Some row) × (row.name ≡ name))

-- so is the latest row
abbrev pub IsAt : NameRows → List ℕ → Type 0
IsAt names name = StandsAt names.rows.items names.latest name
