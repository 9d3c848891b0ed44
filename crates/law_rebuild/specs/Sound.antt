-- What holds of each state that edits lead to.
use Rattle.std.specs.Prelude.{◌≡◌, ℕ, ◌≤◌, ◌^◌, true, false, List, Some, length, bytes_eq}
use Rattle.std.specs.FinMap.{get}
use Rattle.std.specs.List.{AllByRecursion, IsDistinct}
use Rattle.ent_values.specs.declared.value.Value.{Value}
use Rattle.ent_policy.specs.Check.{IsChecked}
use Rattle.ent_policy.specs.Key.{key_of}
use Rattle.ent_policy.specs.Names.{is_bad_name}
use Rattle.ent_policy.specs.declared.document.Tree.{Tree}
use Rattle.ent_policy.specs.declared.key.DocKey.{DocKey}
use Rattle.ent_finder.specs.Rows.{Source, is_filled, source_at, supports}
use Rattle.ent_finder.specs.Slots.{document_count, module_at}
use Rattle.ent_finder.specs.declared.row.RowKey.{RowKey}
use Rattle.ent_table.specs.declared.edit.Edit.{Edit}
use Rattle.ent_table.specs.declared.edit.Edit.TheVariants.{AddPolicy, ReplacePolicy}
use Rattle.ent_table.specs.Names.{cell_count}
use Rattle.ent_table.specs.State.{State}
use Rattle.ent_table.specs.Step.{is_bad_row, is_reserved}
use Rattle.law_rebuild.specs.Rebuilding.{rebuilding}

-- a list has no name twice, each can be a name, and they are not too many
pub record AreSoundNames (names : List (List ℕ)) (limit : ℕ) : Type 0 where
  pub distinct : IsDistinct bytes_eq names
  pub good : AllByRecursion (λ name. is_bad_name name ≡ false) names
  pub most : length names ≤ limit

-- a document was checked, and is stored under its own key
pub record IsSoundDocument (key : DocKey) (document : Tree) : Type 0 where
  pub own : key_of document ≡ key
  pub checked : IsChecked document

-- a row has values, which can be set
pub record IsSoundRow (source : Source) (key : RowKey) (values : List Value) : Type 0 where
  pub filled : is_filled values ≡ true
  pub most : length values ≤ 256
  pub free : is_reserved key.category key.attribute ≡ false
  pub good : is_bad_row key values ≡ false
  pub supported : supports key.category source ≡ true

-- each name, document and row could be put there by an edit, within the limits, and so many edits were accepted
pub record IsSound (s : State) : Type 0 where
  pub people : AreSoundNames s.names.people s.limits.people
  pub actions : AreSoundNames s.names.actions s.limits.actions
  pub resources : AreSoundNames s.names.resources s.limits.resources
  pub cells : cell_count s.names ≤ s.limits.cells
  pub documents : (number : ℕ) (key : DocKey) (document : Tree) → get (module_at s.held.modules number) key ≡ Some document → IsSoundDocument key document
  pub count : document_count s.held.modules ≤ s.limits.documents
  pub rows : (number : ℕ) (key : RowKey) (values : List Value) → get (source_at s.held.sources number).rows key ≡ Some values
      → IsSoundRow (source_at s.held.sources number) key values
  pub edits : length (rebuilding s) ≤ s.serial
  pub serial : s.serial ≤ 2 ^ 63

-- an edit's document was checked
abbrev pub IsSoundEdit : Edit → Type 0
IsSoundEdit (AddPolicy number document) = IsChecked document
IsSoundEdit (ReplacePolicy number document) = IsChecked document
IsSoundEdit _ = Unit {0}
