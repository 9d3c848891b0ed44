-- The JSON of cells.
use Rattle.std.specs.Prelude.{ℕ, List, map, codes}
use Rattle.serde_json.specs.Data as json
use Rattle.serde_json.specs.Data.{Data}
use Rattle.serde_json.specs.View.{items_of}
use Rattle.ent_request.specs.declared.answer.Answer.{Answer}
use Rattle.ent_request.specs.declared.answer.WhyEntry.{WhyEntry}
use Rattle.ent_telling.specs.Paths.{path_data, rule_data, status_text}
use Rattle.ent_profile.specs.Response.{given_written}
use Rattle.ent_table.specs.Names.{Triple}
use Rattle.ent_command.specs.Wanted.{decision_text}

-- ---- values

-- a list, each member of which is written in the same way
abbrev pub list_data : {A : Type 0} → (A → Data) → List A → Data
list_data written xs = json.array (items_of (map written xs))

-- a rule that gave the decision, with the path to it
abbrev pub entry_data : WhyEntry → Data
entry_data entry = json.object (
    json.member (codes "path") (path_data entry.path)
    (json.member (codes "rule") (rule_data entry.rule) json.no_members))

-- a request of the table with its answer
abbrev pub cell_data : Triple × Answer → Data
cell_data c = json.object (
    json.member (codes "action") (json.string c.0.action)
    (json.member (codes "advice") (list_data given_written c.1.advice)
    (json.member (codes "decision") (json.string (decision_text c.1.decision))
    (json.member (codes "obligations") (list_data given_written c.1.obligations)
    (json.member (codes "person") (json.string c.0.person)
    (json.member (codes "resource") (json.string c.0.resource)
    (json.member (codes "status") (json.string (status_text c.1.status))
    (json.member (codes "why") (list_data entry_data c.1.why) json.no_members))))))))

-- a reply whose only key is a command's name
abbrev pub reply_data : List ℕ → Data → Data
reply_data name d = json.object (json.member name d json.no_members)

-- ---- replies

-- the reply to `cell`
unfoldable pub cell_reply : Triple × Answer → Data
cell_reply c = reply_data (codes "cell") (cell_data c)

-- the reply to `table`
unfoldable pub table_reply : List (Triple × Answer) → Data
table_reply cells = reply_data (codes "table") (list_data cell_data cells)

-- the reply to `cells`
unfoldable pub cells_reply : List (Triple × Answer) → Data
cells_reply cells = reply_data (codes "cells") (list_data cell_data cells)
