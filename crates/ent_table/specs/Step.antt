-- What an edit makes of a state.
use Rattle.std.specs.Prelude.{◌≡◌, ℕ, ◌+◌, ◌^◌, ◌||◌, ◌&&◌, Bool, false, not, nat_lt, nat_le, bytes_eq, length}
use Rattle.std.specs.Prelude.{List, slice_set, Option, Some, None, Result, Ok}
use Rattle.std.specs.Prelude.{Err, if◌then◌else◌}
use Rattle.std.specs.List.{list_all}
use Rattle.std.specs.Option.{option_map_or}
use Rattle.ent_values.specs.Same.{same_type}
use Rattle.ent_values.specs.Types.{datatype_of}
use Rattle.ent_values.specs.declared.value.Value.{Value}
use Rattle.ent_policy.specs.Key.{key_of}
use Rattle.ent_policy.specs.Names.{is_bad_name}
use Rattle.ent_policy.specs.declared.document.Tree.{Tree}
use Rattle.ent_policy.specs.declared.key.DocKey.{DocKey}
use Rattle.ent_policy.specs.declared.key.Reference.{Reference}
use Rattle.ent_finder.specs.Finding.{has_document}
use Rattle.ent_finder.specs.Rows.{source_at, supports, with_row}
use Rattle.ent_finder.specs.Slots.{document_count, module_at, with_document}
use Rattle.ent_finder.specs.declared.row.RowKey.{RowKey}
use Rattle.ent_request.specs.Environment.{of_day, of_moment}
use Rattle.ent_request.specs.Sources.{id_attribute}
use Rattle.ent_request.specs.declared.environment.Environment.{Environment}
use Rattle.ent_table.specs.declared.edit.Accepted.{Accepted}
use Rattle.ent_table.specs.declared.edit.Edit.{Edit}
use Rattle.ent_table.specs.declared.edit.Edit.TheVariants.{AddPolicy, ReplacePolicy, WithdrawPolicy, SetAttribute}
use Rattle.ent_table.specs.declared.edit.Edit.TheVariants.{AddName, DropName, SetRoot, SetDay, SetMoment}
use Rattle.ent_table.specs.declared.edit.EditFault.{EditFault}
use Rattle.ent_table.specs.declared.edit.EditFault.TheVariants.{NotThere, AlreadyThere, Limit, Reserved}
use Rattle.ent_table.specs.declared.edit.EditFault.TheVariants.{BadValue, UnknownModule, Memory}
use Rattle.ent_table.specs.declared.edit.List.{List as Which}
use Rattle.ent_table.specs.declared.edit.List.TheVariants as which
use Rattle.ent_table.specs.declared.limits.Limits.{Limits}
use Rattle.ent_table.specs.Difference.{changes}
use Rattle.ent_table.specs.Names.{list_of, with_name, without_name, has_name, cell_count}
use Rattle.ent_table.specs.State.{State}

-- no edit is accepted at this serial
abbrev pub is_last : State → Bool
is_last s = nat_le (2 ^ 63) s.serial

-- the next state, one serial later
abbrev pub next : State → State
next t = record t { serial = t.serial + 1 }

-- a fault where a condition stands, else what follows
abbrev pub unless : Bool → EditFault → Result State EditFault → Result State EditFault
unless stands fault rest = if stands then Err fault else rest

-- whether there is a module of that number
abbrev pub is_module : State → ℕ → Bool
is_module s number = nat_lt number (length s.held.modules)

-- whether the module of that number holds a document with that key
abbrev pub holds : State → ℕ → DocKey → Bool
holds s number key = has_document key (module_at s.held.modules number)

-- whether there is such a module and it holds the document, and whether there is one and it doesn't
abbrev pub module_holds : State → ℕ → DocKey → Bool
module_holds s number key = is_module s number && holds s number key

abbrev pub module_lacks : State → ℕ → DocKey → Bool
module_lacks s number key = is_module s number && not (holds s number key)

-- another document under a key in one module, or none
abbrev pub with_policy : State → ℕ → DocKey → Option Tree → State
with_policy s number key document = record s {
  held = record s.held {
    modules = slice_set s.held.modules number (with_document (module_at s.held.modules number) key document);
  };
}

-- a document is put under its key, where none is yet
abbrev pub policy_added : State → ℕ → Tree → Result State EditFault
policy_added s number d =
    unless (module_holds s number (key_of d)) AlreadyThere
    (unless (is_last s || nat_le s.limits.documents (document_count s.held.modules)) Limit
    (unless (not (is_module s number)) UnknownModule
    (Ok (next (with_policy s number (key_of d) (Some d))))))

-- a document is put under its key, where one is
abbrev pub policy_replaced : State → ℕ → Tree → Result State EditFault
policy_replaced s number d =
    unless (module_lacks s number (key_of d)) NotThere
    (unless (is_last s) Limit
    (unless (not (is_module s number)) UnknownModule
    (Ok (next (with_policy s number (key_of d) (Some d))))))

-- the document under a key is taken away
abbrev pub policy_withdrawn : State → ℕ → DocKey → Result State EditFault
policy_withdrawn s number key =
    unless (module_lacks s number key) NotThere
    (unless (is_last s) Limit
    (unless (is_bad_name key.id) BadValue
    (unless (not (is_module s number)) UnknownModule
    (Ok (next (with_policy s number key None))))))

-- whether there is a module of attributes of that number, and it supports the category
abbrev pub is_source : State → ℕ → List ℕ → Bool
is_source s number category =
    nat_lt number (length s.held.sources) && supports category (source_at s.held.sources number)

-- other values under a key in one module of attributes, or no row where there are none
abbrev pub with_values : State → ℕ → RowKey → List Value → State
with_values s number key values = record s {
  held = record s.held {
    sources = slice_set s.held.sources number (record (source_at s.held.sources number) {
      rows = with_row (source_at s.held.sources number).rows key values;
    });
  };
}

-- whether the attribute is the id of what its category is about, which the name of an entity stands for
abbrev pub is_reserved : List ℕ → List ℕ → Bool
is_reserved category attribute = option_map_or (bytes_eq attribute) (id_attribute category) false

-- whether entity, attribute or issuer can't be a name, or a value isn't of the key's type
abbrev pub is_bad_row : RowKey → List Value → Bool
is_bad_row key values =
    is_bad_name key.entity || (is_bad_name key.attribute || (option_map_or is_bad_name key.issuer false
    || not (list_all (λ v. same_type (datatype_of v) key.datatype) values)))

-- the row of a key gets other values, at most 256
abbrev pub attribute_set : State → ℕ → RowKey → List Value → Result State EditFault
attribute_set s number key values =
    unless (is_last s || nat_lt 256 (length values)) Limit
    (unless (is_reserved key.category key.attribute) Reserved
    (unless (is_bad_row key values) BadValue
    (unless (not (is_source s number key.category)) UnknownModule
    (Ok (next (with_values s number key values))))))

-- the limit of a list
abbrev pub limit_of : Which → Limits → ℕ
limit_of which.People limits = limits.people
limit_of which.Actions limits = limits.actions
limit_of which.Resources limits = limits.resources

-- whether a name more would exceed a limit
abbrev pub exceeds : State → Which → List ℕ → Bool
exceeds s list name =
    nat_le (limit_of list s.limits) (length (list_of list s.names))
    || nat_lt s.limits.cells (cell_count (with_name list name s.names))

-- a name is put last in its list
abbrev pub name_added : State → Which → List ℕ → Result State EditFault
name_added s list name =
    unless (has_name name (list_of list s.names)) AlreadyThere
    (unless (is_last s || exceeds s list name) Limit
    (unless (is_bad_name name) BadValue
    (Ok (next (record s { names = with_name list name s.names })))))

-- a name is taken out of its list
abbrev pub name_dropped : State → Which → List ℕ → Result State EditFault
name_dropped s list name =
    unless (not (has_name name (list_of list s.names))) NotThere
    (unless (is_last s) Limit
    (Ok (next (record s { names = without_name list name s.names }))))

-- another root, or none
abbrev pub with_root : State → Option Reference → State
with_root s root = record s { held = record s.held { root = root } }

-- the root is another, or none
abbrev pub root_set : State → Option Reference → Result State EditFault
root_set s root = unless (is_last s) Limit (Ok (next (with_root s root)))

-- another environment
abbrev pub with_environment : State → Environment → State
with_environment s environment = record s { held = record s.held { environment = environment } }

-- the environment is another
abbrev pub environment_set : State → Environment → Result State EditFault
environment_set s environment = unless (is_last s) Limit (Ok (next (with_environment s environment)))

-- the first refusal whose condition stands, else the state with one thing changed
abbrev pub step : State → Edit → Result State EditFault
step s (AddPolicy number d) = policy_added s number d
step s (ReplacePolicy number d) = policy_replaced s number d
step s (WithdrawPolicy number key) = policy_withdrawn s number key
step s (SetAttribute number key values) = attribute_set s number key values
step s (AddName list name) = name_added s list name
step s (DropName list name) = name_dropped s list name
step s (SetRoot root) = root_set s root
step s (SetDay day) = environment_set s (of_day day)
step s (SetMoment moment) = environment_set s (of_moment moment)

-- a fault is the step's, or want of memory
abbrev pub IsRefusal : Result State EditFault → EditFault → Type 0
IsRefusal r Memory = Unit {0}
IsRefusal r NotThere = r ≡ Err NotThere
IsRefusal r AlreadyThere = r ≡ Err AlreadyThere
IsRefusal r Limit = r ≡ Err Limit
IsRefusal r Reserved = r ≡ Err Reserved
IsRefusal r BadValue = r ≡ Err BadValue
IsRefusal r UnknownModule = r ≡ Err UnknownModule

-- what an edit with the step r is answered, from state s to state t: the new serial and the number of changes, or a
-- refusal that leaves the state
abbrev pub IsAnswered : Result State EditFault → State → State → Result Accepted EditFault → Type 0
IsAnswered r s t (Ok accepted) = (r ≡ Ok t) × (accepted.serial ≡ t.serial) × (accepted.changes ≡ changes s t)
IsAnswered r s t (Err fault) = IsRefusal r fault × (t ≡ s)
