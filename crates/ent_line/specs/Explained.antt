-- The JSON of an explanation: an answer, why parts of it are Indeterminate, and what it rests on.
use Rattle.std.specs.Prelude.{Bool, List, codes}
use Rattle.serde_json.specs.Data as json
use Rattle.serde_json.specs.Data.{Data}
use Rattle.ent_walk.specs.Answer.{causes_told}
use Rattle.ent_request.specs.declared.answer.Answer.{Answer}
use Rattle.ent_request.specs.declared.cause.Cause.{Cause}
use Rattle.ent_request.specs.declared.request.Request.{Request}
use Rattle.ent_request.specs.Held.{Held, looks_in}
use Rattle.ent_request.specs.Listed.{listed}
use Rattle.ent_telling.specs.Causes.{causes_data, untold}
use Rattle.ent_telling.specs.Facts.{facts}
use Rattle.ent_telling.specs.Paths.{status_text}
use Rattle.ent_profile.specs.Response.{given_written}
use Rattle.ent_table.specs.Names.{Triple}
use Rattle.ent_command.specs.Wanted.{decision_text}
use Rattle.ent_line.specs.Cells.{entry_data, list_data, reply_data}
use Rattle.ent_line.specs.Reports.{count_data}

-- the answer to a request as a cell has it, without names
abbrev pub answer_data : Answer → Data
answer_data answer = json.object (
    json.member (codes "advice") (list_data given_written answer.advice)
    (json.member (codes "decision") (json.string (decision_text answer.decision))
    (json.member (codes "obligations") (list_data given_written answer.obligations)
    (json.member (codes "status") (json.string (status_text answer.status))
    (json.member (codes "why") (list_data entry_data answer.why) json.no_members)))))

-- why parts of the answer to a request are Indeterminate: that which gave its status first, if it is, the others in the
-- order of a fresh evaluation
abbrev pub causes_in : Held → Request → List Cause
causes_in held request = causes_told (looks_in held) request

-- why parts of the answer to a request of the table are
abbrev pub causes_of : Held → Triple → List Cause
causes_of held x = causes_in held (listed x.person x.action x.resource)

-- what it rests on, with what the documents say that are found, or without
abbrev pub facts_of : Bool → Held → Triple → Data
facts_of whole held x = facts whole held (listed x.person x.action x.resource)

-- the reply to `explain`: an answer beside the first of its causes, what it rests on, and how many causes there are
-- besides
unfoldable pub explained_reply : Data → List Cause → Data → Data
explained_reply answer causes told = reply_data (codes "explain") (json.object (
    json.member (codes "answer") answer
    (json.member (codes "causes") (causes_data causes)
    (json.member (codes "facts") told
    (json.member (codes "more") (count_data (untold causes)) json.no_members)))))
