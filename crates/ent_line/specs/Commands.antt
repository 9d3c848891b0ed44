-- What each line is answered: each change, question and mark. From below: `respond` is what a line is answered, `run` a
-- command, `told` a question. A refused line leaves the world, and so does every question.
use Rattle.std.specs.Prelude.{ℕ, Bool, List, drop, filter, length, nat_lt, take, if◌then◌else◌, Option, Some, None, option_and_then, Result, Ok, Err}
use Rattle.std.specs.Result.{result_ok}
use Rattle.serde_json.specs.Data.{Data}
use Rattle.ent_json.specs.Line.{data_of}
use Rattle.ent_profile.specs.Asks.{asks}
use Rattle.ent_profile.specs.Response.{response}
use Rattle.ent_table.specs.AnswerMap.{AnswerMap}
use Rattle.ent_table.specs.Ask.{answer_in}
use Rattle.ent_table.specs.Difference.{changes}
use Rattle.ent_table.specs.Names.{Triple, list_of}
use Rattle.ent_table.specs.State.{State, answer_at, table_of}
use Rattle.ent_table.specs.Step as table
use Rattle.ent_table.specs.declared.edit.Edit.{Edit}
use Rattle.ent_table.specs.declared.edit.EditFault.{EditFault}
use Rattle.ent_table.specs.declared.edit.List.{List as Which}
use Rattle.ent_dump.specs.Dumped.{dump_data}
use Rattle.ent_telling.specs.Attributes.{attributes_data}
use Rattle.ent_telling.specs.Documents.{documents_data}
use Rattle.ent_telling.specs.Facts.{facts}
use Rattle.ent_report.specs.Notices.{notices}
use Rattle.ent_report.specs.Reports as report
use Rattle.ent_report.specs.World.{World, marked, marked_table}
use Rattle.ent_command.specs.Asked as asked
use Rattle.ent_command.specs.Asked.{Command, Question, command_in}
use Rattle.ent_line.specs.Beside.{Beside}
use Rattle.ent_line.specs.Cells.{cell_data, cells_reply, cell_reply, table_reply}
use Rattle.ent_line.specs.Dumping.{can_tell, format_reply, is_version}
use Rattle.ent_command.specs.Edits.{edit_of, unread}
use Rattle.ent_line.specs.Explained.{answer_data, causes_in, causes_of, explained_reply, facts_of}
use Rattle.ent_wire.specs.Lines.{line_limit}
use Rattle.ent_line.specs.Listed.{limits_reply, names_reply}
use Rattle.ent_line.specs.Refusals.{refusal_of}
use Rattle.ent_line.specs.Replies as replies
use Rattle.ent_line.specs.Replies.{Answer, accepted, answered, refused}
use Rattle.ent_line.specs.Reports.{by_rule_reply, can_reply, changes_reply, counts_reply, faults_reply, notices_reply, who_reply, work_reply}
use Rattle.ent_line.specs.Standing.{state_reply}
use Rattle.ent_command.specs.Wanted.{Wanted, are_listed, is_asked}
use Rattle.ent_command.specs.declared.making.NoEdit.{NoEdit}
use Rattle.ent_command.specs.declared.making.NoEdit.TheVariants as no_edit
use Rattle.ent_wire.specs.declared.refusal.Refusal.{Refusal}
use Rattle.ent_wire.specs.declared.refusal.Refusal.TheVariants.{BadValue, Document, Memory, NoMark, NotJson, NotThere, Request as NoRequest, Reserved, TooLong}

-- ---- changes

-- an accepted edit leads to a state, which is told by how many answers of the two fresh tables differ, and the marks
-- stay; a refused one is told by its step's refusal
abbrev pub settled : World → Result State EditFault → Answer × World
settled w (Ok t) = (accepted (changes w.state t) t.serial, record w { state = t })
settled w (Err fault) = (refused (refusal_of fault), w)

-- what an edit is answered
abbrev pub edited : World → Edit → Answer × World
edited w edit = settled w (table.step w.state edit)

-- what a change is answered by the edit that it makes (`edit_of`, in `Edits`), or by why it makes none: by the first
-- fault of its document or reference; or, where a version, a day, a moment or a row can't be read, by that refusal,
-- unless one that comes before it stands. A definition of an edit is never in want of memory
abbrev pub made : World → Result Edit NoEdit → Answer × World
made w (Ok edit) = edited w edit
made w (Err (no_edit.Faulty fault)) = (refused (Document fault), w)
made w (Err (no_edit.Unreadable fault)) = (refused (refusal_of (unread w.state fault)), w)
made w (Err no_edit.Memory) = (refused Memory, w)

-- ---- questions

-- what a question tells: JSON, or a refusal
abbrev pub Told : Type 0
Told = Result Data Refusal

-- what is told of what is there, or a refusal where nothing is
abbrev pub told_or : {A : Type 0} → Refusal → (A → Data) → Option A → Told
told_or refusal written (Some x) = Ok (written x)
told_or refusal written None = Err refusal

-- the table: each listed request with its fresh answer, in list order
unfoldable pub table_told : State → Told
table_told s = Ok (table_reply (table_of s))

-- a cell: the fresh answer to a request, if it is listed
unfoldable pub cell_told : State → Triple → Told
cell_told s x = told_or NotThere (λ answer. cell_reply (x, answer)) (answer_at s x)

-- the response to a request of the JSON Profile, listed or not, with its fresh answer
unfoldable pub request_answered : State → Data → Told
request_answered s d = told_or NoRequest (λ request. response (answer_in s request) request) (asks d)

-- how many cells of the fresh table have each decision
unfoldable pub counts_told : State → Told
counts_told s = Ok (counts_reply (report.counts s))

-- what a person can do, or the refusal of a name that isn't listed. A definition of a report is never in want of memory
unfoldable pub can_told : State → List ℕ → Told
can_told s person = told_or NotThere can_reply (result_ok (report.can s person))

-- who can do an action to a resource, if both are listed
unfoldable pub who_told : State → List ℕ → List ℕ → Told
who_told s action resource = told_or NotThere who_reply (result_ok (report.who s action resource))

-- which cells a rule decides, or a default
unfoldable pub by_rule_told : State → List ℕ → Option (List ℕ) → Told
by_rule_told s policy rule = Ok (by_rule_reply (report.by_rule s policy rule))

-- what changed since a mark, or the refusal where there is none
abbrev pub notices_or_refusal : State → Option AnswerMap → Told
notices_or_refusal s o = told_or NoMark (λ kept. notices_reply (notices kept s)) o

-- notices: the requests whose answers differ between the table that the session marked and the fresh one; the mark
-- stays
unfoldable pub changes_told : World → ℕ → Told
changes_told w session = notices_or_refusal w.state (marked_table w session)

-- what changed since a table, or the refusal where none is known
abbrev pub changes_or_refusal : State → Option AnswerMap → Told
changes_or_refusal s o = told_or NoMark (λ table. changes_reply (notices table s) s.serial) o

-- changes: the requests whose answers differ between the table at a serial and the fresh one, where that is known, with
-- the present serial; no mark moves
unfoldable pub since_told : (ℕ → Option AnswerMap) → State → Option ℕ → Told
since_told known s since = changes_or_refusal s (option_and_then known since)

-- how many times a request was evaluated
unfoldable pub work_told : ℕ → Told
work_told n = Ok (work_reply n)

-- a version that lines have, 1 or 2, or the refusal of one that they haven't. No negative number is one
unfoldable pub format_told : Option ℕ → Told
format_told None = Err BadValue
format_told (Some version) = if is_version version then Ok (format_reply version) else Err BadValue

-- the lines of a version that make the state anew, or the refusal where they can't tell it: those of version 1 can't
-- tell a moment
unfoldable pub dump_told : Option ℕ → State → Told
dump_told None s = Err BadValue
dump_told (Some version) s = if can_tell version s.held.environment then Ok (dump_data version s) else Err BadValue

-- what stands, in numbers
unfoldable pub state_told : World → Told
state_told w = Ok (state_reply w)

-- the cells of the fresh table that have all that is asked for, in list order, or the refusal where a name isn't listed
unfoldable pub cells_told : State → Wanted → Told
cells_told s wanted =
    if are_listed s.names wanted then Ok (cells_reply (filter (is_asked wanted) (table_of s))) else Err NotThere

-- the values that are held of an entity of a category, or the refusal of a category that is none of the three
unfoldable pub attributes_told : State → Option (List ℕ) → List ℕ → Told
attributes_told s None entity = Err Reserved
attributes_told s (Some category) entity = Ok (attributes_data s.held.sources category entity)

-- the documents that are held, or those of an id
unfoldable pub documents_told : State → Option (List ℕ) → Told
documents_told s id = Ok (documents_data s.held id)

-- an explanation of a cell, if it is listed: its fresh answer beside the causes of a fresh evaluation, and the look-ups
-- that are recorded for it, each with what it gives: documents whole, or by their keys
unfoldable pub cell_explained : Bool → State → Triple → Told
cell_explained whole s x = told_or NotThere (λ answer.
    explained_reply (cell_data (x, answer)) (causes_of s.held x) (facts_of whole s.held x)) (answer_at s x)

-- an explanation of the fresh answer to a request, its causes, and what it rests on
unfoldable pub request_explained : Bool → State → Data → Told
request_explained whole s d = told_or NoRequest (λ request.
    explained_reply (answer_data (answer_in s request)) (causes_in s.held request) (facts whole s.held request)) (asks d)

-- the cells of the fresh table of which a part failed, whatever their decision, in list order
unfoldable pub faults_told : State → Told
faults_told s = Ok (faults_reply (report.faults s))

-- how large everything may grow
unfoldable pub limits_told : State → Told
limits_told s = Ok (limits_reply s)

-- some names of a list in order, or the refusal of a negative number
unfoldable pub names_told : State → Which → Option ℕ → Option ℕ → Told
names_told s list (Some from) (Some count) = Ok (names_reply (take count (drop from (list_of list s.names))))
names_told s list from count = Err BadValue

-- what a question of a session is answered. Only `work` tells how many evaluations there were, and only `changes`
-- looks at the tables that are known
unfoldable pub told : Beside → World → ℕ → Question → Told
told b w session asked.table = table_told w.state
told b w session (asked.cell x) = cell_told w.state x
told b w session (asked.ask d) = request_answered w.state d
told b w session asked.counts = counts_told w.state
told b w session (asked.can person) = can_told w.state person
told b w session (asked.who action resource) = who_told w.state action resource
told b w session (asked.by_rule policy rule) = by_rule_told w.state policy rule
told b w session asked.notices = changes_told w session
told b w session (asked.changes_since since) = since_told b.known w.state since
told b w session asked.work = work_told b.count
told b w session (asked.format version) = format_told version
told b w session (asked.dump version) = dump_told version w.state
told b w session asked.state = state_told w
told b w session (asked.cells wanted) = cells_told w.state wanted
told b w session (asked.attributes category entity) = attributes_told w.state category entity
told b w session (asked.documents id) = documents_told w.state id
told b w session (asked.explain_cell whole x) = cell_explained whole w.state x
told b w session (asked.explain whole d) = request_explained whole w.state d
told b w session asked.faults = faults_told w.state
told b w session asked.limits = limits_told w.state
told b w session (asked.names list from count) = names_told w.state list from count

-- ---- commands

-- a mark: the fresh table of that moment is kept for its session alone
unfoldable pub table_marked : World → ℕ → Answer × World
table_marked w session = (replies.marked w.state.serial, marked w session)

-- what a command of a session is answered, and the world after it: a question leaves it
unfoldable pub run : Beside → World → ℕ → Command → Answer × World
run b w session (asked.change c) = made w (edit_of c)
run b w session (asked.question q) = (answered (told b w session q), w)
run b w session asked.mark = table_marked w session

-- ---- lines

-- a command of a session, or the refusal of what isn't one
abbrev pub requested : Beside → World → Result (ℕ × Command) Refusal → Answer × World
requested b w (Ok x) = run b w x.0 x.1
requested b w (Err refusal) = (refused refusal, w)

-- what a line's JSON is answered, or the refusal of a line that is none
abbrev pub heard : Beside → World → Option Data → Answer × World
heard b w None = (refused NotJson, w)
heard b w (Some d) = requested b w (command_in d)

-- what a line is answered, and the world after it: a line that is too long is refused unread
unfoldable pub respond : Beside → World → List ℕ → Answer × World
respond b w line = if nat_lt line_limit (length line) then (refused TooLong, w) else heard b w (data_of line)
