-- What is written into the reply, part by part.
use Rattle.std.specs.Prelude.{ℕ, List, [], ◌∷◌, ◌++◌, map, Option, Some, None}
use Rattle.json.specs.Token as token
use Rattle.json.specs.Token.{Token}
use Rattle.ent_values.specs.declared.value.Value.{Value}
use Rattle.ent_policy.specs.declared.document.Tree.{Tree}
use Rattle.ent_finder.specs.declared.row.RowKey.{RowKey}
use Rattle.ent_request.specs.Held.{Held}
use Rattle.ent_table.specs.declared.edit.Edit.{Edit}
use Rattle.ent_table.specs.declared.edit.Edit.TheVariants.{AddPolicy, SetAttribute}
use Rattle.law_rebuild.specs.Rebuilding.{all_documents, all_rows, environment_edits, root_edits}
use Rattle.ent_dump.specs.Edits.{edit_line}

-- the text of each edit
abbrev pub line_tokens : List Edit → List Token
line_tokens es = map (λ e. token.string (edit_line e)) es

-- the document in a slot is put into a module, if there is one
abbrev pub slot_edits : ℕ → Option Tree → List Edit
slot_edits number None = []
slot_edits number (Some document) = AddPolicy number document ∷ []

-- a row of a module is given its values, if it has some
abbrev pub filled_edits : ℕ → RowKey → List Value → List Edit
filled_edits number key [] = []
filled_edits number key (v ∷ vs) = SetAttribute number key (v ∷ vs) ∷ []

-- the documents, the rows, the environment and the root of what is held
abbrev pub held_edits : Held → List Edit
held_edits held = all_documents held.modules ++ (all_rows held.sources ++ (environment_edits held.environment ++ root_edits held.root))
