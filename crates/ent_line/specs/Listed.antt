-- The JSON of lists and limits: the replies to `limits` and `names`.
use Rattle.std.specs.Prelude.{ℕ, List, length, codes}
use Rattle.serde_json.specs.Data as json
use Rattle.serde_json.specs.Data.{Data}
use Rattle.ent_finder.specs.Slots.{document_count}
use Rattle.ent_table.specs.State.{State, table_of}
use Rattle.ent_line.specs.Cells.{list_data, reply_data}
use Rattle.ent_line.specs.Reports.{count_data}

-- a limit, and how much of it is taken
abbrev pub limit_data : ℕ → ℕ → Data
limit_data most taken = json.object (
    json.member (codes "most") (count_data most)
    (json.member (codes "taken") (count_data taken) json.no_members))

-- the limits of a state
abbrev pub limits_data : State → Data
limits_data s = json.object (
    json.member (codes "actions") (limit_data s.limits.actions (length s.names.actions))
    (json.member (codes "cells") (limit_data s.limits.cells (length (table_of s)))
    (json.member (codes "documents") (limit_data s.limits.documents (document_count s.held.modules))
    (json.member (codes "people") (limit_data s.limits.people (length s.names.people))
    (json.member (codes "resources") (limit_data s.limits.resources (length s.names.resources)) json.no_members)))))

-- the reply to `limits`
unfoldable pub limits_reply : State → Data
limits_reply s = reply_data (codes "limits") (limits_data s)

-- the reply to `names`
unfoldable pub names_reply : List (List ℕ) → Data
names_reply names = reply_data (codes "names") (list_data json.string names)
