-- What reading a change gives.
use Rattle.std.specs.Prelude.{◌≡◌, Result, Ok, Err}
use Rattle.ent_policy.specs.declared.fault.CheckFault.{CheckFault}
use Rattle.ent_policy.specs.declared.fault.CheckFault.TheVariants as document
use Rattle.ent_table.specs.declared.edit.Edit.{Edit}
use Rattle.ent_command.specs.declared.making.NoEdit.{NoEdit}
use Rattle.ent_command.specs.declared.making.NoEdit.TheVariants.{Faulty, Memory, Unreadable}

-- why there is no edit where a document isn't had
abbrev pub unchecked : CheckFault → NoEdit
unchecked (document.Doc fault) = Faulty fault
unchecked document.Memory = Memory

-- there is no edit for that reason; want of memory says nothing
abbrev pub IsWhy : NoEdit → Result Edit NoEdit → Type 0
IsWhy Memory made = Unit {0}
IsWhy (Faulty fault) made = made ≡ Err (Faulty fault)
IsWhy (Unreadable fault) made = made ≡ Err (Unreadable fault)

-- the edit, or the lack of one, is what the definition gives, unless memory is wanting
abbrev pub Makes : Result Edit NoEdit → Result Edit NoEdit → Type 0
Makes (Ok edit) made = made ≡ Ok edit
Makes (Err why) made = IsWhy why made
