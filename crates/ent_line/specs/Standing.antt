-- The JSON of what stands, in numbers: the reply to `state`.
use Rattle.std.specs.Prelude.{ℕ, List, length, Option, option_map, codes, filter_map}
use Rattle.std.specs.FinMap.{len}
use Rattle.std.specs.List.{enumerate_from, sum_by}
use Rattle.serde_json.specs.Data as json
use Rattle.serde_json.specs.Data.{Data}
use Rattle.ent_values.specs.Writing.{date_text, date_time_text}
use Rattle.ent_finder.specs.Slots.{document_count}
use Rattle.ent_json.specs.Members.{only_member}
use Rattle.ent_request.specs.declared.environment.Environment.{Environment}
use Rattle.ent_request.specs.declared.environment.Environment.TheVariants.{Empty, Day, Moment}
use Rattle.ent_table.specs.State.{table_of}
use Rattle.ent_dump.specs.Edits.{written_root}
use Rattle.ent_report.specs.World.{Mark, World}
use Rattle.ent_line.specs.Cells.{list_data, reply_data}
use Rattle.ent_line.specs.Reports.{count_data}

-- what is known of the time: nothing, a day or a moment
abbrev pub environment_data : Environment → Data
environment_data Empty = json.null
environment_data (Day day) = only_member (codes "day") (json.string (date_text day))
environment_data (Moment moment) = only_member (codes "moment") (json.string (date_time_text moment))

-- the sessions that have a mark, each with the mark's serial
abbrev pub marked_sessions : List (Option Mark) → List (ℕ × ℕ)
marked_sessions marks = filter_map (λ x. option_map (λ m. (x.0, m.serial)) x.1) (enumerate_from 0 marks)

-- one of them
abbrev pub mark_data : ℕ × ℕ → Data
mark_data x = json.object (
    json.member (codes "serial") (count_data x.1)
    (json.member (codes "session") (count_data x.0) json.no_members))

-- how many names, cells, documents and rows there are, the root, what is known of the time, the marks, and how many
-- edits were accepted
abbrev pub state_data : World → Data
state_data w = json.object (
    json.member (codes "actions") (count_data (length w.state.names.actions))
    (json.member (codes "cells") (count_data (length (table_of w.state)))
    (json.member (codes "documents") (count_data (document_count w.state.held.modules))
    (json.member (codes "environment") (environment_data w.state.held.environment)
    (json.member (codes "marks") (list_data mark_data (marked_sessions w.marks))
    (json.member (codes "people") (count_data (length w.state.names.people))
    (json.member (codes "resources") (count_data (length w.state.names.resources))
    (json.member (codes "root") (written_root w.state.held.root)
    (json.member (codes "rows") (count_data (sum_by (λ source. len source.rows) w.state.held.sources))
    (json.member (codes "serial") (count_data w.state.serial) json.no_members))))))))))

-- the reply to `state`
unfoldable pub state_reply : World → Data
state_reply w = reply_data (codes "state") (state_data w)
