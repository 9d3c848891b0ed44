-- The law of the lines that make edits.
use Rattle.std.specs.Prelude.{◌≡◌, Ok}
use Rattle.std.specs.List.{AllByRecursion}
use Rattle.serde_json.specs.Data.{Data}
use Rattle.ent_values.specs.ReadBack.{HasFewYears}
use Rattle.ent_table.specs.declared.edit.Edit.{Edit}
use Rattle.ent_dump.specs.Edits.{edit_data}
use Rattle.ent_command.specs.Asked.{Change, change, command_in}
use Rattle.ent_command.specs.Edits.{edit_of}
use Rattle.law_restart.specs.Carried.{IsRead, values_of}

-- this JSON asks, in session 0, for a change that makes that edit
abbrev pub Asks : Data → Edit → Type 0
Asks d e = (c : Change) × ((command_in d ≡ Ok (0, change c)) × (edit_of c ≡ Ok e))

-- what is written of an edit asks for that edit, if it carries what a line can say and none of its durations has more
-- than 999,999,999 whole years
abbrev pub EditsReadBack : Type 0
EditsReadBack = (e : Edit) → IsRead e → AllByRecursion HasFewYears (values_of e) → Asks (edit_data e) e
