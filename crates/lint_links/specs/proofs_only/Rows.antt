-- Documents by their numbers, in the order of their keys.
use Rattle.std.specs.Prelude.{◌≡◌, ℕ, zero, suc, List, Bool, true, false, Option, Some, get_or, map, min, slice_get}
use Rattle.std.specs.FinMap.{entries}
use Rattle.std.specs.List.{list_any, sum_by}
use Rattle.std.specs.Option.{option_map}
use Rattle.ent_policy.specs.declared.document.Tree.{Tree}
use Rattle.ent_policy.specs.declared.key.DocKey.{DocKey}
use Rattle.ent_finder.specs.Slots.{Docs}
use Rattle.lint_links.specs.Together.{leads_to}
use Rattle.lint_links.specs.declared.held.Held.{Held}

-- the entry of a document that is held
abbrev pub entry_of : Held → DocKey × Tree
entry_of held = (held.key.now, held.document.now)

-- the document of that number
abbrev pub numbered : List (DocKey × Tree) → ℕ → Option Tree
numbered es number = option_map (λ e. e.1) (slice_get es number)

-- these are the numbers of the documents to which one leads
abbrev pub IsRow : Docs → Tree → List ℕ → Type 0
IsRow docs document row = map (numbered (entries docs)) row ≡ map Some (leads_to docs document)

-- a row for each document
abbrev pub rows_lead : Docs → List (List ℕ) → List (List (Option Tree))
rows_lead docs rows = map (map (numbered (entries docs))) rows

abbrev pub leads : Docs → List (List (Option Tree))
leads docs = map (λ e. map Some (leads_to docs e.1)) (entries docs)

-- one of the documents of these numbers has its flag set
abbrev pub is_one_set : List Bool → List ℕ → Bool
is_one_set flags row = list_any (λ number. get_or flags number false) row

-- a flag for each document: whether a chain of that many references begins in it
abbrev pub flags_after : List (List ℕ) → ℕ → List Bool
flags_after rows zero = map (λ _. true) rows
flags_after rows (suc hops) = map (is_one_set (flags_after rows hops)) rows

-- a sum of numbers that each count one more, as far as that number
abbrev pub counted_row : ℕ → List ℕ → List ℕ → ℕ
counted_row most counts row = min (sum_by (λ number. suc (get_or counts number 0)) row) most

-- a number for each document: how many may be followed from it over at most that many references, as far as that number
abbrev pub counts_after : ℕ → List (List ℕ) → ℕ → List ℕ
counts_after most rows zero = map (λ _. 0) rows
counts_after most rows (suc hops) = map (counted_row most (counts_after most rows hops)) rows
