-- What differs between two tables.
use Rattle.std.specs.Prelude.{ℕ, ◌+◌, ◌^◌, ◌-◌, ◌&&◌, min, Bool, true, not, List, [], ◌∷◌, ◌++◌, length, Option, Some, None, bytes_eq, codes, is_some, option_and_then, unwrap_or, if◌then◌else◌}
use Rattle.serde_json.specs.Data as json
use Rattle.serde_json.specs.Data.{Data, Members, put}
use Rattle.serde_json.specs.Find.{as_number, as_u64, get, get_member}
use Rattle.serde_json.specs.View.{items_of}
use Rattle.ent_json.specs.Line.{data_of}
use Rattle.ent_json.specs.Objects.{filled_list_at, text_at}
use Rattle.script_matching.specs.Matching.{fits}
use Rattle.script_compare.specs.Tables.{table_in}

-- the decision of a cell, if there is one
abbrev pub decision_of : Option Data → List ℕ
decision_of None = codes "none"
decision_of (Some cell) = unwrap_or (text_at (codes "decision") cell) (codes "none")

-- two cells, of which one may be absent, have the same decision
abbrev pub same_decision : Option Data → Option Data → Bool
same_decision before after = bytes_eq (decision_of before) (decision_of after)

-- a cell, or null where there is none
abbrev pub or_null : Option Data → Data
or_null None = json.null
or_null (Some cell) = cell

-- a change as it is told: both cells
abbrev pub change : Option Data → Option Data → Data
change before after = json.object (put (codes "after") (or_null after) (put (codes "before") (or_null before) json.no_members))

-- the change of a cell and what stands in another table at its request, if the decision is another
abbrev pub decided_at : Data → Option Data → List Data
decided_at cell after = if same_decision (Some cell) after then [] else change (Some cell) after ∷ []

-- the change of a cell and what stands in another table at its request, if the decision is the same, and anything else another
abbrev pub reasoned_at : Data → Option Data → List Data
reasoned_at cell None = []
reasoned_at cell (Some after) = if same_decision (Some cell) (Some after) && not (fits true cell after) then change (Some cell) (Some after) ∷ [] else []

-- the change where a table has no cell at the request of one
abbrev pub appeared_at : Option Data → Data → List Data
appeared_at None cell = change None (Some cell) ∷ []
appeared_at (Some before) cell = []

-- the cells of a table whose requests have another decision in a second one, or no cell
abbrev pub decided : Members → Data → List Data
decided json.no_members after = []
decided (json.member request cell cells) after = decided_at cell (get request after) ++ decided cells after

-- the cells of a second table at whose requests the first has none
abbrev pub appeared : Data → Members → List Data
appeared before json.no_members = []
appeared before (json.member request cell cells) = appeared_at (get request before) cell ++ appeared before cells

-- the cells of a table whose requests have the same decision in a second one, and other reasons
abbrev pub reasoned : Members → Data → List Data
reasoned json.no_members after = []
reasoned (json.member request cell cells) after = reasoned_at cell (get request after) ++ reasoned cells after

-- the kind of a change: both decisions
abbrev pub kind_of : Data → List ℕ
kind_of changed = decision_of (get (codes "before") changed) ++ (codes " to " ++ decision_of (get (codes "after") changed))

-- how many stand at a key
abbrev pub count_at : List ℕ → Members → ℕ
count_at key counts = unwrap_or (option_and_then as_u64 (option_and_then as_number (get_member key counts))) 0

-- one more at a key
abbrev pub raised : List ℕ → Members → Members
raised key counts = put key (json.number (json.unsigned (min (count_at key counts + 1) (2 ^ 64 - 1)))) counts

-- how many changes there are of each kind, beside others
abbrev pub counted : List Data → Members → Members
counted [] counts = counts
counted (changed ∷ changes) counts = counted changes (raised (kind_of changed) counts)

-- what is told of these changes of decisions and of reasons: how many of each kind, and each
abbrev pub told : List Data → List Data → Data
told decisions reasons = json.object (
    put (codes "reasons") (json.array (items_of reasons))
    (put (codes "decisions") (json.array (items_of decisions))
    (put (codes "counts") (json.object (counted decisions (put (codes "reasons") (json.number (json.unsigned (length reasons))) json.no_members)))
    json.no_members)))

-- nothing stands in the list at a key
abbrev pub none_at : List ℕ → Data → Bool
none_at key d = not (is_some (filled_list_at key d))

-- no change is told
abbrev pub is_nothing : Data → Bool
is_nothing d = none_at (codes "decisions") d && none_at (codes "reasons") d

-- what is told of two tables
abbrev pub difference : Members → Members → Data
difference before after = told (decided before (json.object after) ++ appeared (json.object before) after) (reasoned before (json.object after))

-- both tables, if there are two, compared
abbrev pub both : Option Members → Option Members → Option Data
both (Some before) (Some after) = Some (difference before after)
both _ _ = None

-- what is told of the tables of two replies to `table`
abbrev pub difference_of : List ℕ → List ℕ → Option Data
difference_of before after = both (option_and_then table_in (data_of before)) (option_and_then table_in (data_of after))
