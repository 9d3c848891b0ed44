-- What the commands of the code ask for, by the data that their JSON values have.
use Rattle.std.specs.Prelude.{ℕ, List, map, option_copied, Option, option_map, Result, Ok, Err}
use Rattle.serde_json.specs.Data.{Data}
use Rattle.serde_json.specs.View.{items_of}
use Rattle.ent_json.specs.Objects.{has_only}
use Rattle.ent_polform.specs.Objects.{must, need}
use Rattle.ent_command.specs.Asked as asked
use Rattle.ent_command.specs.Keys as keys
use Rattle.ent_command.specs.Wanted as wanted
use Rattle.ent_command.specs.declared.command.EditCommand.{EditCommand}
use Rattle.ent_command.specs.declared.command.EditCommand.TheVariants.{AddName, DropName, AddPolicy, ReplacePolicy, WithdrawPolicy, SetAttribute, SetRoot, SetDay, SetMoment}
use Rattle.ent_command.specs.declared.command.Command as command
use Rattle.ent_command.specs.declared.command.Command.TheVariants as commands
use Rattle.ent_command.specs.declared.command.QuestionCommand.{QuestionCommand}
use Rattle.ent_command.specs.declared.command.QuestionCommand.TheVariants.{Table, Cell, Ask, Counts, Can, Who, ByRule, Notices, Changes, Work, Format, Dump, State, Cells, Attributes, Documents, ExplainCell, Explain, Faults, Limits, Names}
use Rattle.ent_command.specs.declared.keys.AskedRow.{AskedRow}
use Rattle.ent_wire.specs.declared.refusal.Refusal.{Refusal}
use Rattle.ent_wire.specs.declared.refusal.Refusal.TheVariants.{Shape}
use Rattle.ent_command.specs.declared.wanted.WantedCells.{WantedCells}
use Rattle.ent_table.specs.Names.{triple_of}

-- a row without where its parts lie in memory
abbrev pub row_view : {J : Type 0} → (J → Data) → AskedRow J → keys.AskedRow
row_view content row = record {
  category = row.category.now;
  entity = row.entity.now;
  attribute = row.attribute.now;
  datatype = row.datatype.now;
  issuer = option_copied row.issuer;
  values = items_of (map content row.values.now);
}

-- a change without where its parts lie in memory
abbrev pub change_view : {J : Type 0} → (J → Data) → EditCommand J → asked.Change
change_view content (AddName list name) = asked.add_name list name.now
change_view content (DropName list name) = asked.drop_name list name.now
change_view content (AddPolicy number document) = asked.add_policy number (content document.now)
change_view content (ReplacePolicy number document) = asked.replace_policy number (content document.now)
change_view content (WithdrawPolicy number kind id version) = asked.withdraw_policy number kind id.now version.now
change_view content (SetAttribute number row) = asked.set_attribute number (row_view content row)
change_view content (SetRoot reference) = asked.set_root (content reference.now)
change_view content (SetDay day) = asked.set_day (option_copied day)
change_view content (SetMoment moment) = asked.set_moment (option_copied moment)

-- which cells are asked for, without where its parts lie in memory
abbrev pub wanted_view : {J : Type 0} → (J → Data) → WantedCells J → wanted.Wanted
wanted_view content w = record {
  person = option_copied w.person;
  action = option_copied w.action;
  resource = option_copied w.resource;
  decisions = option_map (λ ds. items_of (map content ds.now)) w.decisions;
}

-- a question without where its parts lie in memory
abbrev pub question_view : {J : Type 0} → (J → Data) → QuestionCommand J → asked.Question
question_view content Table = asked.table
question_view content (Cell person action resource) = asked.cell (triple_of person.now action.now resource.now)
question_view content (Ask request) = asked.ask (content request.now)
question_view content Counts = asked.counts
question_view content (Can person) = asked.can person.now
question_view content (Who action resource) = asked.who action.now resource.now
question_view content (ByRule policy rule) = asked.by_rule policy.now (option_copied rule)
question_view content Notices = asked.notices
question_view content (Changes since) = asked.changes_since since
question_view content Work = asked.work
question_view content (Format version) = asked.format version
question_view content (Dump version) = asked.dump version
question_view content State = asked.state
question_view content (Cells wanted) = asked.cells (wanted_view content wanted)
question_view content (Attributes category entity) = asked.attributes (option_copied category) entity.now
question_view content (Documents id) = asked.documents (option_copied id)
question_view content (ExplainCell whole person action resource) = asked.explain_cell whole (triple_of person.now action.now resource.now)
question_view content (Explain whole request) = asked.explain whole (content request.now)
question_view content Faults = asked.faults
question_view content Limits = asked.limits
question_view content (Names list from count) = asked.names list from count

-- a command without where its parts lie in memory
abbrev pub command_view : {J : Type 0} → (J → Data) → command.Command J → asked.Command
command_view content (commands.Change change) = asked.change (change_view content change)
command_view content (commands.Question question) = asked.question (question_view content question)
command_view content commands.Mark = asked.mark

-- a command so, or a refusal
abbrev pub asked_view : {J : Type 0} → (J → Data) → Result (command.Command J) Refusal → Result asked.Command Refusal
asked_view content (Ok command) = Ok (command_view content command)
asked_view content (Err refusal) = Err refusal

-- what was read of an object under some keys, `do` and `session` among them, or a refusal
abbrev pub asks_in : List (List ℕ) → Option asked.Command → Data → Result asked.Command Refusal
asks_in keys asked d = must Shape (has_only keys d) (need Shape asked)

-- a command with its session, or a refusal
abbrev pub session_view : {J : Type 0} → (J → Data) → Result (ℕ × command.Command J) Refusal → Result (ℕ × asked.Command) Refusal
session_view content (Ok x) = Ok (x.0, command_view content x.1)
session_view content (Err refusal) = Err refusal
