-- The difference of two tables as a person reads it: how many changes there are of each kind, and a table with a row for each.
use Rattle.std.specs.Prelude.{ℕ, ◌-◌, ◌==◌, ◌&&◌, ◌||◌, max, Bool, true, false, not, List, [], ◌∷◌, ◌++◌, map, replicate, Option, Some, None, codes, count_by, decimal, is_some, nat_le, nat_lt, option_and_then, unwrap_or, if◌then◌else◌}
use Rattle.std.specs.List.{flat_map}
use Rattle.serde_json.specs.Data as json
use Rattle.serde_json.specs.Data.{Data, Members}
use Rattle.serde_json.specs.Find.{as_number, as_object, as_str, as_u64, at, get}
use Rattle.ent_json.specs.Objects.{list_at, text_at}
use Rattle.script_matching.specs.Matching.{fits}
use Rattle.script_compare.specs.Changes.{decision_of, is_nothing}
use Rattle.script_compare.specs.Tables.{listed}
use Rattle.script_compare.specs.declared.column.ChangeColumn.{ChangeColumn}
use Rattle.script_compare.specs.declared.column.ChangeColumn.TheVariants.{Person, Action, Resource, Before, After, RulesBefore, RulesAfter, Also}
use Rattle.script_compare.specs.declared.showing.Widths.{Widths}

-- ---- what is told of a change

-- the members of the list at a key
abbrev pub members_at : List ℕ → Data → List Data
members_at key d = listed (unwrap_or (list_at key d) json.no_items)

-- the name of a request at a key, as the cell before tells it, or else the one after
abbrev pub name_at : List ℕ → Data → List ℕ
name_at key changed = unwrap_or (option_and_then (text_at key) (get (codes "before") changed)) (unwrap_or (option_and_then (text_at key) (get (codes "after") changed)) [])

-- a text of a list, by its place
abbrev pub text_of : ℕ → Data → List ℕ
text_of place d = unwrap_or (option_and_then as_str (at place d)) []

-- a document on the path to a rule: its id and its version
abbrev pub document_text : Data → List ℕ
document_text document = text_of 1 document ++ (codes " " ++ (text_of 2 document ++ codes " > "))

-- a rule that decided, behind the documents on the path to it
abbrev pub entry_text : Data → List ℕ
entry_text entry = flat_map document_text (members_at (codes "path") entry) ++ unwrap_or (text_at (codes "rule") entry) (codes "default")

-- a text behind others, with a comma between them
abbrev pub joined : List ℕ → List ℕ → List ℕ
joined [] text = text
joined (byte ∷ bytes) text = (byte ∷ bytes) ++ (codes ", " ++ text)

-- rules that decided, behind others
abbrev pub entries_text : List ℕ → List Data → List ℕ
entries_text before [] = before
entries_text before (entry ∷ entries) = entries_text (joined before (entry_text entry)) entries

-- the rules that decided a cell, if there is one
abbrev pub rules_of : Option Data → List ℕ
rules_of None = []
rules_of (Some cell) = entries_text [] (members_at (codes "why") cell)

-- the same stands in two places, or nothing in both
abbrev pub same_data : Option Data → Option Data → Bool
same_data None None = true
same_data (Some d) (Some e) = fits true d e
same_data _ _ = false

-- a key behind others, if two cells have something else there
abbrev pub also_at : List ℕ → Data → Data → List ℕ → List ℕ
also_at key before after keys = if same_data (get key before) (get key after) then keys else joined keys key

-- what else is another, beside decisions and rules, of two cells
abbrev pub also_of : Data → Data → List ℕ
also_of before after = also_at (codes "advice") before after (also_at (codes "obligations") before after (also_at (codes "status") before after []))

-- what else is another of two cells, where both are there
abbrev pub also_between : Option Data → Option Data → List ℕ
also_between (Some before) (Some after) = if is_some (as_object before) && is_some (as_object after) then also_of before after else []
also_between _ _ = []

-- ---- columns

-- what stands above a column
abbrev pub title : ChangeColumn → List ℕ
title Person = codes "person"
title Action = codes "action"
title Resource = codes "resource"
title Before = codes "before"
title After = codes "after"
title RulesBefore = codes "rules before"
title RulesAfter = codes "rules after"
title Also = codes "also another"

-- what stands in a column of the row of a change
abbrev pub cell_text : ChangeColumn → Data → List ℕ
cell_text Person changed = name_at (codes "person") changed
cell_text Action changed = name_at (codes "action") changed
cell_text Resource changed = name_at (codes "resource") changed
cell_text Before changed = decision_of (get (codes "before") changed)
cell_text After changed = decision_of (get (codes "after") changed)
cell_text RulesBefore changed = rules_of (get (codes "before") changed)
cell_text RulesAfter changed = rules_of (get (codes "after") changed)
cell_text Also changed = also_between (get (codes "before") changed) (get (codes "after") changed)

-- what stands in a column of the row of a change, or of the first row
unfoldable pub text_in : ChangeColumn → Option Data → List ℕ
text_in column None = title column
text_in column (Some changed) = cell_text column changed

-- ---- a table

-- a byte begins a character of UTF-8
abbrev pub begins : ℕ → Bool
begins byte = not (nat_le 128 byte && nat_lt byte 192)

-- how many characters a text has
abbrev pub width : List ℕ → ℕ
width text = count_by begins text

-- a byte as it is shown: a control character as a question mark
abbrev pub shown_byte : ℕ → ℕ
shown_byte byte = if nat_lt byte 32 || byte == 127 then 63 else byte

-- a text with spaces behind it, up to so many characters
unfoldable pub padded : ℕ → List ℕ → List ℕ
padded wanted text = map shown_byte text ++ replicate (wanted - width text) 32

-- the greatest of a width and those of a column's texts
abbrev pub widest : ChangeColumn → ℕ → List Data → ℕ
widest column least [] = least
widest column least (changed ∷ changes) = widest column (max least (width (text_in column (Some changed)))) changes

-- how wide a column is
abbrev pub column_width : List Data → List Data → ChangeColumn → ℕ
column_width decisions reasons column = widest column (widest column (width (text_in column None)) decisions) reasons

-- how wide each column is, but the last
unfoldable pub widths_of : List Data → List Data → Widths
widths_of decisions reasons = record {
  person = column_width decisions reasons Person;
  action = column_width decisions reasons Action;
  resource = column_width decisions reasons Resource;
  before = column_width decisions reasons Before;
  after = column_width decisions reasons After;
  rules_before = column_width decisions reasons RulesBefore;
  rules_after = column_width decisions reasons RulesAfter;
}

-- a column of a row, and two spaces
unfoldable pub in_column : ChangeColumn → ℕ → Option Data → List ℕ
in_column column wanted line = padded wanted (text_in column line) ++ codes "  "

-- the names of a row's request
unfoldable pub names_of : Widths → Option Data → List ℕ
names_of widths line = in_column Person widths.person line ++ (in_column Action widths.action line ++ in_column Resource widths.resource line)

-- both decisions of a row
unfoldable pub decisions_of : Widths → Option Data → List ℕ
decisions_of widths line = in_column Before widths.before line ++ in_column After widths.after line

-- the rules of both, and what else is another
unfoldable pub reasons_of : Widths → Option Data → List ℕ
reasons_of widths line =
    in_column RulesBefore widths.rules_before line ++ (in_column RulesAfter widths.rules_after line ++ padded 0 (text_in Also line))

-- a row
unfoldable pub row_text : Widths → Option Data → List ℕ
row_text widths line = names_of widths line ++ (decisions_of widths line ++ (reasons_of widths line ++ codes "\n"))

-- the rows of changes
abbrev pub rows_text : Widths → List Data → List ℕ
rows_text widths changes = flat_map (λ changed. row_text widths (Some changed)) changes

-- the table of changes of decisions and of reasons
unfoldable pub rows_of : Widths → List Data → List Data → List ℕ
rows_of widths decisions reasons = row_text widths None ++ (rows_text widths decisions ++ rows_text widths reasons)

-- ---- the whole

-- how many changes there are of each kind, a line for each
abbrev pub counts_text : Members → List ℕ
counts_text json.no_members = []
counts_text (json.member kind count counts) =
    kind ++ (codes ": " ++ (decimal (unwrap_or (option_and_then as_u64 (as_number count)) 0) ++ (codes "\n" ++ counts_text counts)))

-- the numbers of changes that are told
abbrev pub counts_in : Data → Members
counts_in told = unwrap_or (option_and_then as_object (get (codes "counts") told)) json.no_members

-- the table of the changes that are told, if there are any
abbrev pub rows_in : Data → List ℕ
rows_in told = if is_nothing told then []
    else codes "\n" ++ rows_of (widths_of (members_at (codes "decisions") told) (members_at (codes "reasons") told)) (members_at (codes "decisions") told) (members_at (codes "reasons") told)

-- what is told of two tables, as a person reads it
abbrev pub shown_text : Data → List ℕ
shown_text told = counts_text (counts_in told) ++ rows_in told
