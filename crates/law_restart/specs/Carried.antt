-- What an edit that was read carries.
use Rattle.std.specs.Prelude.{◌≡◌, List, [], IsTrue, Some, None}
use Rattle.std.specs.List.{AllByRecursion}
use Rattle.ent_values.specs.ReadBack.{IsReal, IsRealDay, IsRealMoment}
use Rattle.ent_values.specs.Types.{datatype_of}
use Rattle.ent_values.specs.declared.value.Value.{Value}
use Rattle.ent_policy.specs.Check.{IsChecked}
use Rattle.ent_policy.specs.Values.{document_values}
use Rattle.ent_policy.specs.Versions.{is_version}
use Rattle.ent_finder.specs.declared.row.RowKey.{RowKey}
use Rattle.ent_polform.specs.ReadBack.{IsReference}
use Rattle.ent_table.specs.declared.edit.Edit.{Edit}
use Rattle.ent_table.specs.declared.edit.Edit.TheVariants.{AddPolicy, ReplacePolicy, WithdrawPolicy, SetAttribute}
use Rattle.ent_table.specs.declared.edit.Edit.TheVariants.{AddName, DropName, SetRoot, SetDay, SetMoment}
use Rattle.ent_command.specs.Keys.{category_named}

-- a row's category is one that rows have, and each of its values has its type and is what the type says
pub record IsReadRow (key : RowKey) (values : List Value) : Type 0 where
  pub category : category_named key.category ≡ Some key.category
  pub typed : AllByRecursion (λ v. datatype_of v ≡ key.datatype) values
  pub real : AllByRecursion IsReal values

-- what an edit carries is what a line can say: a checked document, a version, a row, a reference, a day of the calendar
-- or a moment of one
abbrev pub IsRead : Edit → Type 0
IsRead (AddPolicy number document) = IsChecked document
IsRead (ReplacePolicy number document) = IsChecked document
IsRead (WithdrawPolicy number key) = IsTrue (is_version key.version)
IsRead (SetAttribute number key values) = IsReadRow key values
IsRead (AddName list name) = Unit {0}
IsRead (DropName list name) = Unit {0}
IsRead (SetRoot None) = Unit {0}
IsRead (SetRoot (Some reference)) = IsReference reference
IsRead (SetDay None) = Unit {0}
IsRead (SetDay (Some day)) = IsRealDay day
IsRead (SetMoment None) = Unit {0}
IsRead (SetMoment (Some moment)) = IsRealMoment moment

-- the values that an edit carries: those of a document or of a row
abbrev pub values_of : Edit → List Value
values_of (AddPolicy number document) = document_values document
values_of (ReplacePolicy number document) = document_values document
values_of (SetAttribute number key values) = values
values_of edit = []
