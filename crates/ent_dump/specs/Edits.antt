-- The JSON object of the line that makes an edit, its keys in byte order.
use Rattle.std.specs.Prelude.{ℕ, List, map, Option, Some, None, option_map, codes}
use Rattle.serde_json.specs.Data as json
use Rattle.serde_json.specs.Data.{Data}
use Rattle.serde_json.specs.View.{items_of}
use Rattle.serde_json.specs.Written.{compact_text}
use Rattle.ent_values.specs.Calendar.{Day}
use Rattle.ent_values.specs.Types.{uri_of}
use Rattle.ent_values.specs.Writing.{date_text, date_time_text}
use Rattle.ent_values.specs.declared.date_time.DateTime.{DateTime}
use Rattle.ent_values.specs.declared.value.Value.{Value}
use Rattle.ent_policy.specs.Key.{kind_word}
use Rattle.ent_policy.specs.Versions.{version_text}
use Rattle.ent_policy.specs.declared.document.Tree.{Tree}
use Rattle.ent_policy.specs.declared.key.DocKey.{DocKey}
use Rattle.ent_policy.specs.declared.key.Reference.{Reference}
use Rattle.ent_finder.specs.declared.row.RowKey.{RowKey}
use Rattle.ent_json.specs.Members.{optional}
use Rattle.ent_polform.specs.Written.{reference_written, value_written, written}
use Rattle.ent_table.specs.declared.edit.Edit.{Edit}
use Rattle.ent_table.specs.declared.edit.Edit.TheVariants.{AddPolicy, ReplacePolicy, WithdrawPolicy, SetAttribute, AddName, DropName, SetRoot, SetDay, SetMoment}
use Rattle.ent_table.specs.declared.edit.List.{List as Which}
use Rattle.ent_table.specs.declared.edit.List.TheVariants as which

-- the command that puts a name into a list
abbrev pub adding : Which → List ℕ
adding which.People = codes "person.add"
adding which.Actions = codes "action.add"
adding which.Resources = codes "resource.add"

-- the command that takes a name out of a list
abbrev pub dropping : Which → List ℕ
dropping which.People = codes "person.drop"
dropping which.Actions = codes "action.drop"
dropping which.Resources = codes "resource.drop"

-- a command with a name
abbrev pub name_data : List ℕ → List ℕ → Data
name_data command name = json.object (
    json.member (codes "do") (json.string command)
    (json.member (codes "name") (json.string name)
    json.no_members))

-- a command with a document, and the number of its module
abbrev pub document_data : List ℕ → ℕ → Tree → Data
document_data command number document = json.object (
    json.member (codes "do") (json.string command)
    (json.member (codes "document") (written document)
    (json.member (codes "module") (json.number (json.unsigned number))
    json.no_members)))

-- the command that takes a document out of a module, with its kind, id and version
abbrev pub withdraw_data : ℕ → DocKey → Data
withdraw_data number key = json.object (
    json.member (codes "do") (json.string (codes "policy.withdraw"))
    (json.member (codes "id") (json.string key.id)
    (json.member (codes "kind") (json.string (kind_word key.kind))
    (json.member (codes "module") (json.number (json.unsigned number))
    (json.member (codes "version") (json.string (version_text key.version))
    json.no_members)))))

-- the command that gives a row its values, of which the issuer is left out where there is none
abbrev pub row_data : ℕ → RowKey → List Value → Data
row_data number key values = json.object (
    json.member (codes "attribute") (json.string key.attribute)
    (json.member (codes "category") (json.string key.category)
    (json.member (codes "do") (json.string (codes "attr.set"))
    (json.member (codes "entity") (json.string key.entity)
    (optional (codes "issuer") (option_map json.string key.issuer)
    (json.member (codes "module") (json.number (json.unsigned number))
    (json.member (codes "type") (json.string (uri_of key.datatype))
    (json.member (codes "values") (json.array (items_of (map value_written values)))
    json.no_members))))))))

-- a day, or null for none
abbrev pub written_day : Option Day → Data
written_day None = json.null
written_day (Some day) = json.string (date_text day)

-- the command that sets the day
abbrev pub day_data : Option Day → Data
day_data day = json.object (
    json.member (codes "day") (written_day day)
    (json.member (codes "do") (json.string (codes "day.set"))
    json.no_members))

-- a moment, or null for none
abbrev pub written_moment : Option DateTime → Data
written_moment None = json.null
written_moment (Some moment) = json.string (date_time_text moment)

-- the command that sets the moment
abbrev pub moment_data : Option DateTime → Data
moment_data moment = json.object (
    json.member (codes "do") (json.string (codes "moment.set"))
    (json.member (codes "moment") (written_moment moment)
    json.no_members))

-- a reference, or null for none
abbrev pub written_root : Option Reference → Data
written_root None = json.null
written_root (Some root) = reference_written root

-- the command that sets the root
abbrev pub root_data : Option Reference → Data
root_data root = json.object (
    json.member (codes "do") (json.string (codes "root.set"))
    (json.member (codes "reference") (written_root root)
    json.no_members))

-- the command that makes an edit, of the session that no line names
unfoldable pub edit_data : Edit → Data
edit_data (AddPolicy number document) = document_data (codes "policy.add") number document
edit_data (ReplacePolicy number document) = document_data (codes "policy.replace") number document
edit_data (WithdrawPolicy number key) = withdraw_data number key
edit_data (SetAttribute number key values) = row_data number key values
edit_data (AddName list name) = name_data (adding list) name
edit_data (DropName list name) = name_data (dropping list) name
edit_data (SetRoot root) = root_data root
edit_data (SetDay day) = day_data day
edit_data (SetMoment moment) = moment_data moment

-- the text of that command
abbrev pub edit_line : Edit → List ℕ
edit_line e = compact_text (edit_data e)
