-- The JSON of reports and notices.
use Rattle.std.specs.Prelude.{ℕ, List, Option, Some, None, codes}
use Rattle.serde_json.specs.Data as json
use Rattle.serde_json.specs.Data.{Data}
use Rattle.ent_combine.specs.declared.outcome.Outcome.{Outcome}
use Rattle.ent_request.specs.declared.answer.Answer.{Answer}
use Rattle.ent_table.specs.Names.{Triple}
use Rattle.ent_command.specs.Wanted.{decision_text}
use Rattle.ent_line.specs.Cells.{list_data, reply_data}
use Rattle.ent_report.specs.declared.counts.Counts.{Counts}
use Rattle.ent_table.specs.declared.since.Change.{Change}

-- ---- values

-- a number of cells
abbrev pub count_data : ℕ → Data
count_data n = json.number (json.unsigned n)

-- how many cells have each decision, all Indeterminate ones under one name
abbrev pub counts_data : Counts → Data
counts_data c = json.object (
    json.member (codes "Deny") (count_data c.deny)
    (json.member (codes "Indeterminate") (count_data c.indeterminate)
    (json.member (codes "NotApplicable") (count_data c.not_applicable)
    (json.member (codes "Permit") (count_data c.permit) json.no_members))))

-- an action and a resource
abbrev pub pair_data : List ℕ × List ℕ → Data
pair_data x = json.object (
    json.member (codes "action") (json.string x.0)
    (json.member (codes "resource") (json.string x.1) json.no_members))

-- a person, an action and a resource
abbrev pub triple_data : List ℕ × List ℕ × List ℕ → Data
triple_data x = json.object (
    json.member (codes "action") (json.string x.1)
    (json.member (codes "person") (json.string x.0)
    (json.member (codes "resource") (json.string x.2) json.no_members)))

-- a decision, null for a request that isn't listed
abbrev pub decision_data : Option Outcome → Data
decision_data None = json.null
decision_data (Some decision) = json.string (decision_text decision)

-- a request with its decisions after and before
abbrev pub notice_data : Change Outcome → Data
notice_data n = json.object (
    json.member (codes "action") (json.string n.action)
    (json.member (codes "after") (decision_data n.after)
    (json.member (codes "before") (decision_data n.before)
    (json.member (codes "person") (json.string n.person)
    (json.member (codes "resource") (json.string n.resource) json.no_members)))))

-- a cell by its names and its decision
abbrev pub fault_data : Triple × Answer → Data
fault_data c = json.object (
    json.member (codes "action") (json.string c.0.action)
    (json.member (codes "decision") (json.string (decision_text c.1.decision))
    (json.member (codes "person") (json.string c.0.person)
    (json.member (codes "resource") (json.string c.0.resource) json.no_members))))

-- ---- replies

-- the reply to `counts`
unfoldable pub counts_reply : Counts → Data
counts_reply c = reply_data (codes "counts") (counts_data c)

-- the reply to `can`
unfoldable pub can_reply : List (List ℕ × List ℕ) → Data
can_reply found = reply_data (codes "can") (list_data pair_data found)

-- the reply to `who`
unfoldable pub who_reply : List (List ℕ) → Data
who_reply people = reply_data (codes "who") (list_data json.string people)

-- the reply to `by_rule`
unfoldable pub by_rule_reply : List (List ℕ × List ℕ × List ℕ) → Data
by_rule_reply found = reply_data (codes "by_rule") (list_data triple_data found)

-- the reply to `notices`
unfoldable pub notices_reply : List (Change Outcome) → Data
notices_reply notices = reply_data (codes "notices") (list_data notice_data notices)

-- the reply to `changes`: notices beside the serial of the present table
unfoldable pub changes_reply : List (Change Outcome) → ℕ → Data
changes_reply notices serial = json.object (
    json.member (codes "changes") (list_data notice_data notices)
    (json.member (codes "serial") (count_data serial) json.no_members))

-- the reply to `faults`
unfoldable pub faults_reply : List (Triple × Answer) → Data
faults_reply cells = reply_data (codes "faults") (list_data fault_data cells)

-- the reply to `work`: how many times a request was evaluated
unfoldable pub work_reply : ℕ → Data
work_reply n = reply_data (codes "evaluations") (count_data n)
