-- The difference of two tables for those who look a change over: which requests gain Permit and which lose it, grouped by
-- the rules that permit them, as Markdown of at most fifty lines.
use Rattle.std.specs.Prelude.{ℕ, ◌-◌, ◌==◌, ◌||◌, Bool, true, false, List, [], ◌∷◌, ◌++◌, length, map, take, drop, Option, Some, None, bytes_eq, codes, count_by, decimal, nat_lt, if◌then◌else◌}
use Rattle.std.specs.List.{flat_map, list_any}
use Rattle.serde_json.specs.Data.{Data}
use Rattle.serde_json.specs.Find.{get}
use Rattle.script_compare.specs.Changes.{decision_of, is_nothing, kind_of}
use Rattle.script_compare.specs.Shown.{members_at, name_at, rules_of}
use Rattle.script_compare.specs.declared.gains.Way.{Way}
use Rattle.script_compare.specs.declared.gains.Way.TheVariants.{Gained, Lost}

-- ---- which requests

-- the cell of a change that is permitted where Permit is gained or lost: the one after, or the one before
abbrev pub permitted : Way → Data → Option Data
permitted Gained changed = get (codes "after") changed
permitted Lost changed = get (codes "before") changed

-- a request whose decision is another gains Permit, or loses it
abbrev pub is_of : Way → Data → Bool
is_of way changed = bytes_eq (decision_of (permitted way changed)) (codes "Permit")

-- the requests that gain it, or that lose it
abbrev pub has : Way → Data → Bool
has way told = list_any (is_of way) (members_at (codes "decisions") told)

-- how many of some changes gain it, or lose it
abbrev pub count_of : Way → List Data → ℕ
count_of way changes = count_by (is_of way) changes

-- ---- lines

-- a byte as code is written in Markdown: no control character, and no backtick, which would end it
abbrev pub code_byte : ℕ → ℕ
code_byte byte = if nat_lt byte 32 || byte == 127 then 63 else if byte == 96 then 39 else byte

-- a text as code, in which nothing is markup
abbrev pub code : List ℕ → List ℕ
code text = codes "`" ++ (map code_byte text ++ codes "`")

-- the words before the rules of a group
abbrev pub way_text : Way → List ℕ
way_text Gained = codes "- **gained** by "
way_text Lost = codes "- **lost** from "

-- the line of a request
unfoldable pub request_text : Data → List ℕ
request_text changed =
    codes "  - " ++ (code (name_at (codes "person") changed) ++ (codes " " ++ (code (name_at (codes "action") changed) ++ (codes " "
    ++ (code (name_at (codes "resource") changed) ++ (codes ": " ++ (kind_of changed ++ codes "\n")))))))

-- the line of a group: by which rules so many are permitted
unfoldable pub group_text : Way → List ℕ → ℕ → List ℕ
group_text way rules count = way_text way ++ (code rules ++ (codes ": " ++ (decimal count ++ codes "\n")))

-- of a request the rules that permit it, and its line
abbrev pub Row : Type 0
Row = List ℕ × List ℕ

-- that of a change, if it is one of those
abbrev pub row_if : Way → Data → List Row
row_if way changed = if is_of way changed then (rules_of (permitted way changed), request_text changed) ∷ [] else []

abbrev pub rows_of : Way → List Data → List Row
rows_of way changes = flat_map (row_if way) changes

-- rules behind others, unless they stand there
abbrev pub with_first : List (List ℕ) → List ℕ → List (List ℕ)
with_first seen rules = if list_any (bytes_eq rules) seen then seen else seen ++ rules ∷ []

-- the rules of rows behind others, each once, in the order in which they come first
abbrev pub firsts : List (List ℕ) → List Row → List (List ℕ)
firsts seen [] = seen
firsts seen (row ∷ rows) = firsts (with_first seen row.0) rows

-- a line, and whether it is a request's
abbrev pub Line : Type 0
Line = Bool × List ℕ

-- the line of a row that these rules permit
abbrev pub member_if : List ℕ → Row → List Line
member_if rules row = if bytes_eq rules row.0 then (true, row.1) ∷ [] else []

-- how many of the rows these rules permit
abbrev pub members_of : List ℕ → List Row → ℕ
members_of rules rows = count_by (λ row. bytes_eq rules row.0) rows

-- the lines of a group
abbrev pub group_lines : Way → List Row → List ℕ → List Line
group_lines way rows rules = (false, group_text way rules (members_of rules rows)) ∷ flat_map (member_if rules) rows

-- the lines of all groups
abbrev pub groups_of : Way → List Row → List Line
groups_of way rows = flat_map (group_lines way rows) (firsts [] rows)

-- the lines of what some changes gain, and then of what they lose
abbrev pub lines_of : List Data → List Line
lines_of changes = groups_of Gained (rows_of Gained changes) ++ groups_of Lost (rows_of Lost changes)

-- ---- the whole

-- how many lines of groups and requests are told at most
abbrev pub most : ℕ
most = 47

-- so many requests aren't told
abbrev pub rest_text : ℕ → List ℕ
rest_text count = if nat_lt 0 count then codes "- and " ++ (decimal count ++ codes " more requests\n") else []

-- the first of the lines, and how many requests stand in the others
abbrev pub listed : List Line → List ℕ
listed lines = flat_map (λ line. line.1) (take most lines) ++ rest_text (count_by (λ line. line.0) (drop most lines))

-- how many changes neither gain Permit nor lose it
abbrev pub count_others : List Data → ℕ
count_others changes = length changes - count_of Gained changes - count_of Lost changes

-- how many changes there are
unfoldable pub summary : List Data → ℕ → List ℕ
summary decisions reasons =
    decimal (count_of Gained decisions) ++ (codes " gain Permit, " ++ (decimal (count_of Lost decisions) ++ (codes " lose it, "
    ++ (decimal (count_others decisions) ++ (codes " have another decision, "
    ++ (decimal reasons ++ codes " other reasons.\n\n"))))))

-- what is told of two tables, as Markdown
abbrev pub markdown_text : Data → List ℕ
markdown_text told = if is_nothing told then codes "Nothing differs.\n"
    else summary (members_at (codes "decisions") told) (length (members_at (codes "reasons") told)) ++ listed (lines_of (members_at (codes "decisions") told))
