-- The edits that make a state anew.
use Rattle.std.specs.Prelude.{ℕ, List, [], ◌∷◌, ◌++◌, map, replicate, Option, Some, None, Result, Ok, Err}
use Rattle.std.specs.FinMap.{empty, entries}
use Rattle.std.specs.List.{enumerate_from, flat_map}
use Rattle.std.specs.Result.{result_unwrap_or}
use Rattle.ent_values.specs.declared.value.Value.{Value}
use Rattle.ent_policy.specs.declared.document.Tree.{Tree}
use Rattle.ent_policy.specs.declared.key.DocKey.{DocKey}
use Rattle.ent_policy.specs.declared.key.Reference.{Reference}
use Rattle.ent_finder.specs.Rows.{Source}
use Rattle.ent_finder.specs.Slots.{Docs}
use Rattle.ent_finder.specs.declared.row.RowKey.{RowKey}
use Rattle.ent_request.specs.declared.environment.Environment.{Environment}
use Rattle.ent_request.specs.declared.environment.Environment.TheVariants as environments
use Rattle.ent_table.specs.declared.edit.Edit.{Edit}
use Rattle.ent_table.specs.declared.edit.Edit.TheVariants.{AddPolicy, ReplacePolicy, SetAttribute, AddName, SetRoot, SetDay, SetMoment}
use Rattle.ent_table.specs.declared.edit.EditFault.{EditFault}
use Rattle.ent_table.specs.declared.edit.List.{List as Which}
use Rattle.ent_table.specs.declared.edit.List.TheVariants as which
use Rattle.ent_table.specs.Names.{Names}
use Rattle.ent_table.specs.declared.limits.Limits.{Limits}
use Rattle.ent_table.specs.State.{State, initial}
use Rattle.ent_table.specs.Step.{step}

-- ---- edits in order

-- what follows, unless something was refused
abbrev pub and_then : Result State EditFault → (State → Result State EditFault) → Result State EditFault
and_then (Ok t) rest = rest t
and_then (Err fault) rest = Err fault

-- the state behind several edits, or the first refusal
abbrev pub stepped : State → List Edit → Result State EditFault
stepped s [] = Ok s
stepped s (e ∷ es) = and_then (step s e) (λ t. stepped t es)

-- ---- where they begin

-- a module of attributes with its categories, and no row
abbrev pub emptied_source : Source → Source
emptied_source source = record source { rows = empty }

-- no module holds a document
abbrev pub emptied_modules : List Docs → List Docs
emptied_modules modules = map (λ _. empty) modules

-- the modules and the limits alone: nothing is held, listed or set, at serial 0
abbrev pub emptied : State → State
emptied s =
    initial (record {
      root = None;
      modules = emptied_modules s.held.modules;
      sources = map emptied_source s.held.sources;
      environment = environments.Empty;
    }) s.limits

-- a state in which nothing was ever held, listed or set: so many modules of policies and of attributes, all of these with the same categories
abbrev pub new_state : ℕ → ℕ → List (List ℕ) → Limits → State
new_state policies attributes categories limits =
    initial (record {
      root = None;
      modules = replicate policies empty;
      sources = replicate attributes (record { categories = categories; rows = empty });
      environment = environments.Empty;
    }) limits

-- ---- the edits

-- a document is put into a module
abbrev pub document_edit : ℕ → DocKey × Tree → Edit
document_edit number e = AddPolicy number e.1

-- the documents of a module, in the order of their keys
abbrev pub module_edits : ℕ × Docs → List Edit
module_edits m = map (document_edit m.0) (entries m.1)

-- a row is given its values
abbrev pub row_edit : ℕ → RowKey × List Value → Edit
row_edit number e = SetAttribute number e.0 e.1

-- the rows of a module, in the order of their keys
abbrev pub source_edits : ℕ × Source → List Edit
source_edits m = map (row_edit m.0) (entries m.1.rows)

-- what is known of the time, unless that is nothing
abbrev pub environment_edits : Environment → List Edit
environment_edits environments.Empty = []
environment_edits (environments.Day day) = SetDay (Some day) ∷ []
environment_edits (environments.Moment moment) = SetMoment (Some moment) ∷ []

-- the root, if one is set
abbrev pub root_edits : Option Reference → List Edit
root_edits None = []
root_edits (Some root) = SetRoot (Some root) ∷ []

-- the names of a list, in order
abbrev pub name_edits : Which → List (List ℕ) → List Edit
name_edits list names = map (AddName list) names

-- the documents of all modules, by the modules' numbers
abbrev pub all_documents : List Docs → List Edit
all_documents modules = flat_map module_edits (enumerate_from 0 modules)

-- the rows of all modules, by the modules' numbers
abbrev pub all_rows : List Source → List Edit
all_rows sources = flat_map source_edits (enumerate_from 0 sources)

-- the names of the three lists
abbrev pub all_names : Names → List Edit
all_names names = name_edits which.People names.people ++ (name_edits which.Actions names.actions ++ name_edits which.Resources names.resources)

-- the documents, the rows, the environment, the root and the names of a state
abbrev pub rebuilding : State → List Edit
rebuilding s =
    all_documents s.held.modules ++ (all_rows s.held.sources ++ (environment_edits s.held.environment ++ (root_edits s.held.root ++ all_names s.names)))

-- ---- edits of which some are refused

-- the state behind an edit, which is the same where the edit is refused
abbrev pub edited : State → Edit → State
edited s e = result_unwrap_or (step s e) s

-- the state behind several edits
abbrev pub reached : State → List Edit → State
reached s [] = s
reached s (e ∷ es) = reached (edited s e) es

-- an edit, where putting a document in the place of another counts as putting it there
abbrev pub as_added : Edit → Edit
as_added (ReplacePolicy number document) = AddPolicy number document
as_added e = e
