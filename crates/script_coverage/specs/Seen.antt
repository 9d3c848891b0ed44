-- The rules that gave decisions, as replies tell them.
use Rattle.std.specs.Prelude.{ℕ, List, [], ◌∷◌, Option, Some, None, codes, option_and_then}
use Rattle.std.specs.List.{fold}
use Rattle.serde_json.specs.Data as json
use Rattle.serde_json.specs.Data.{Data, Members, put}
use Rattle.serde_json.specs.Find.{get}
use Rattle.ent_json.specs.Line.{data_of}
use Rattle.ent_json.specs.Objects.{text_at}
use Rattle.script_compare.specs.Shown.{members_at, text_of}
use Rattle.script_compare.specs.Tables.{names_text}

-- the last of some, or another where there is none
abbrev pub last_of : Data → List Data → Data
last_of other [] = other
last_of other (d ∷ ds) = last_of d ds

-- of an entry of a why list the document to which its rule belongs: the last on the path
abbrev pub document_of : Data → Data
document_of entry = last_of entry (members_at (codes "path") entry)

-- a rule of a policy among others
abbrev pub with_rule : Data → Option (List ℕ) → Members → Members
with_rule document None seen = seen
with_rule document (Some rule) seen = put (names_text (text_of 1 document) (text_of 2 document) rule) json.null seen

-- that of an entry: none where a default decided
abbrev pub with_entry : Members → Data → Members
with_entry seen entry = with_rule (document_of entry) (text_at (codes "rule") entry) seen

-- those of a cell
abbrev pub with_cell : Members → Data → Members
with_cell seen cell = fold with_entry seen (members_at (codes "why") cell)

-- those of a cell, if there is one
abbrev pub with_one : Members → Option Data → Members
with_one seen None = seen
with_one seen (Some cell) = with_cell seen cell

-- those that a reply tells: to `table` and `cells` those of each cell, to `cell` those of one, to `explain` those of its answer
abbrev pub with_reply : Members → Data → Members
with_reply seen reply =
    with_one (with_one (fold with_cell (fold with_cell seen (members_at (codes "table") reply)) (members_at (codes "cells") reply)) (get (codes "cell") reply))
    (option_and_then (get (codes "answer")) (get (codes "explain") reply))

-- the same of the text of a reply; of what is no JSON none
abbrev pub with_text : Members → Option Data → Members
with_text seen None = seen
with_text seen (Some reply) = with_reply seen reply
