-- Which edit a change makes, or why it makes none.
use Rattle.std.specs.Prelude.{ℕ, ◌-◌, ◌^◌, List, [], ◌∷◌, Option, Some, None, Result, Ok, Err, nat_lt, if◌then◌else◌, option_and_then, option_map, unwrap_or}
use Rattle.serde_json.specs.Data.{Data, Items}
use Rattle.serde_json.specs.Data as json
use Rattle.serde_json.specs.Events.{items_len}
use Rattle.ent_values.specs.Reading.{date_of, date_time_of}
use Rattle.ent_values.specs.Types.{type_of}
use Rattle.ent_values.specs.declared.datatype.DataType.{DataType}
use Rattle.ent_values.specs.declared.value.Value.{Value}
use Rattle.ent_policy.specs.Versions.{version_of}
use Rattle.ent_policy.specs.declared.fault.DocFault.{DocFault}
use Rattle.ent_policy.specs.declared.key.Reference.{Reference}
use Rattle.ent_polform.specs.Objects.{◌>>=◌}
use Rattle.ent_polform.specs.Form.{document_of}
use Rattle.ent_polform.specs.Reference.{reference_of}
use Rattle.ent_polform.specs.Values.{value_in}
use Rattle.ent_finder.specs.declared.row.RowKey.{RowKey}
use Rattle.ent_table.specs.State.{State}
use Rattle.ent_table.specs.Step as table
use Rattle.ent_table.specs.declared.edit.Edit.{Edit}
use Rattle.ent_table.specs.declared.edit.Edit.TheVariants.{AddPolicy, ReplacePolicy, WithdrawPolicy, SetAttribute, AddName, DropName, SetRoot, SetDay, SetMoment}
use Rattle.ent_table.specs.declared.edit.EditFault.{EditFault}
use Rattle.ent_table.specs.declared.edit.EditFault.TheVariants.{Limit, Reserved, BadValue}
use Rattle.ent_command.specs.Asked as asked
use Rattle.ent_command.specs.Asked.{Change}
use Rattle.ent_command.specs.Keys.{AskedRow}
use Rattle.ent_command.specs.declared.making.NoEdit.{NoEdit}
use Rattle.ent_command.specs.declared.making.NoEdit.TheVariants.{Faulty, Unreadable}

-- ---- what is read of a change

-- the root that a JSON value names: none for null
abbrev pub root_of : Data → Result (Option Reference) DocFault
root_of json.null = Ok None
root_of d = reference_of d >>= λ reference. Ok (Some reference)

-- the values of that type that a list spells, unless a member spells none
abbrev pub values_in : DataType → Items → Option (List Value)
values_in datatype json.no_items = Some []
values_in datatype (json.item d ds) = option_and_then (λ v. option_map (λ vs. v ∷ vs) (values_in datatype ds)) (value_in datatype d)

-- the key of a row whose type was read
abbrev pub key_of_row : AskedRow → DataType → RowKey
key_of_row row datatype = record { category = row.category; entity = row.entity; attribute = row.attribute; datatype = datatype; issuer = row.issuer }

-- the key and the values of a row, unless its type or a value can't be read
unfoldable pub row_read : AskedRow → Option (RowKey × List Value)
row_read row = option_and_then (λ datatype. option_map (λ values. (key_of_row row datatype, values)) (values_in datatype row.values)) (type_of row.datatype)

-- ---- the edit

-- the edit with what was read, or the first fault
abbrev pub with_read : {A : Type 0} → (A → Edit) → Result A DocFault → Result Edit NoEdit
with_read edit (Ok x) = Ok (edit x)
with_read edit (Err fault) = Err (Faulty fault)

-- the edit with what was read, or the refusal where it can't be
abbrev pub if_read : {A : Type 0} → (A → Edit) → EditFault → Option A → Result Edit NoEdit
if_read edit fault (Some x) = Ok (edit x)
if_read edit fault None = Err (Unreadable fault)

-- the refusal of a row whose type or a value can't be read: a bad value, before which too many values and a reserved
-- attribute are told
abbrev pub row_fault : AskedRow → EditFault
row_fault row = if nat_lt 256 (items_len row.values) then Limit else (if table.is_reserved row.category row.attribute then Reserved else BadValue)

-- the number of a module. A negative one has the greatest of 64 bits, which is no module's
abbrev pub module_number : Option ℕ → ℕ
module_number number = unwrap_or number (2 ^ 64 - 1)

-- the edit that a change makes, with what is read of it
abbrev pub edit_of : Change → Result Edit NoEdit
edit_of (asked.add_name list name) = Ok (AddName list name)
edit_of (asked.drop_name list name) = Ok (DropName list name)
edit_of (asked.add_policy number d) = with_read (AddPolicy (module_number number)) (document_of d)
edit_of (asked.replace_policy number d) = with_read (ReplacePolicy (module_number number)) (document_of d)
edit_of (asked.withdraw_policy number kind id written) =
    if_read (λ version. WithdrawPolicy (module_number number) (record { kind = kind; id = id; version = version }))
    BadValue (version_of written)
edit_of (asked.set_attribute number row) =
    if_read (λ x. SetAttribute (module_number number) x.0 x.1) (row_fault row) (row_read row)
edit_of (asked.set_root d) = with_read SetRoot (root_of d)
edit_of (asked.set_day None) = Ok (SetDay None)
edit_of (asked.set_day (Some written)) = if_read (λ day. SetDay (Some day)) BadValue (date_of written)
edit_of (asked.set_moment None) = Ok (SetMoment None)
edit_of (asked.set_moment (Some written)) = if_read (λ moment. SetMoment (Some moment)) BadValue (date_time_of written)

-- the refusal of what can't be read: before it the last serial is told
abbrev pub unread : State → EditFault → EditFault
unread s fault = if table.is_last s then Limit else fault
