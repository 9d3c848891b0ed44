-- The laws of a review that is split over several.
use Rattle.std.specs.Prelude.{◌≡◌, ◌↔◌, ◌⊎◌, ℕ, ◌<◌, ◌≤◌, ◌^◌, List, length, map, Option, Some, Ok, Err, slice_get}
use Rattle.std.specs.List.{sum, zip}
use Rattle.ent_request.specs.Held.{Held}
use Rattle.ent_table.specs.Difference.{changes}
use Rattle.ent_table.specs.declared.edit.Edit.{Edit}
use Rattle.ent_table.specs.declared.edit.EditFault.TheVariants.{Limit}
use Rattle.ent_table.specs.declared.limits.Limits.{Limits}
use Rattle.ent_table.specs.Parts.{cells_of}
use Rattle.ent_table.specs.State.{State, initial, table_of}
use Rattle.law_rebuild.specs.Rebuilding.{stepped}
use Rattle.ent_report.specs.Reports.{by_rule, can, counts, faults, who}
use Rattle.ent_report.specs.declared.fault.ReportFault.TheVariants.{NotThere}
use Rattle.law_split.specs.Merged.{merged_cells, merged_people, merged_requests, summed}
use Rattle.law_split.specs.Split.{AreLed, IsSplit}

-- ---- that it is split

-- reviews that hold the same and list nothing are a split, whatever their limits
abbrev pub NewReviewsAreASplit : Type 0
NewReviewsAreASplit =
    (part_of : List ℕ → ℕ) (held : Held) (limits : Limits) (each : List Limits)
    → ((person : List ℕ) → part_of person < length each)
    → IsSplit part_of (initial held limits) (map (initial held) each)

-- and they stay one over all edits that the whole and the parts accept
abbrev pub SplitsAreKept : Type 0
SplitsAreKept =
    (part_of : List ℕ → ℕ) (edits : List Edit) (start whole : State) (starts parts : List State)
    → IsSplit part_of start starts → stepped start edits ≡ Ok whole → AreLed part_of edits starts parts
    → IsSplit part_of whole parts

-- what the parts accept the whole does, unless it comes to one of its limits
abbrev pub WholesAccept : Type 0
WholesAccept =
    (part_of : List ℕ → ℕ) (edits : List Edit) (start : State) (starts parts : List State)
    → IsSplit part_of start starts → AreLed part_of edits starts parts
    → ((whole : State) × (stepped start edits ≡ Ok whole)) ⊎ (stepped start edits ≡ Err Limit)

-- reviews that hold the same and list nothing are told edits, and accept all that they are told: there is a review,
-- with certain limits, that would accept all edits, and of what it comes to they are a split
abbrev pub SplitsHaveAWhole : Type 0
SplitsHaveAWhole =
    (part_of : List ℕ → ℕ) (edits : List Edit) (held : Held) (each : List Limits) (parts : List State)
    → ((person : List ℕ) → part_of person < length each) → length edits ≤ 2 ^ 63
    → AreLed part_of edits (map (initial held) each) parts
    → (limits : Limits) × ((whole : State)
    × ((stepped (initial held limits) edits ≡ Ok whole) × IsSplit part_of whole parts))

-- ---- what they tell

-- what the whole would tell, by what the parts tell: the cells of each person and what she can do are her part's, the
-- counts are sums, and what has rows of several people is merged by the whole's order of people
pub record TellTheWhole (part_of : List ℕ → ℕ) (whole : State) (parts : List State) : Type 0 where
  pub block : (person : List ℕ) (part : State) → slice_get parts (part_of person) ≡ Some part
      → cells_of person (table_of whole) ≡ cells_of person (table_of part)
  pub cells : table_of whole ≡ merged_cells whole.names.people (map table_of parts)
  pub failed : faults whole ≡ merged_cells whole.names.people (map faults parts)
  pub counted : counts whole ≡ summed (map counts parts)
  pub allowed : (person : List ℕ) (part : State) → slice_get parts (part_of person) ≡ Some part
      → can whole person ≡ can part person
  pub people : (action resource : List ℕ) (lists : List (List (List ℕ)))
      → map (λ part. who part action resource) parts ≡ map Ok lists
      → who whole action resource ≡ Ok (merged_people whole.names.people lists)
  pub unlisted : (action resource : List ℕ) (number : ℕ) (part : State) → slice_get parts number ≡ Some part
      → (who whole action resource ≡ Err NotThere) ↔ (who part action resource ≡ Err NotThere)
  pub decided : (policy : List ℕ) (rule : Option (List ℕ))
      → by_rule whole policy rule
      ≡ merged_requests whole.names.people (map (λ part. by_rule part policy rule) parts)

abbrev pub PartsTellTheWhole : Type 0
PartsTellTheWhole =
    (part_of : List ℕ → ℕ) (whole : State) (parts : List State)
    → IsSplit part_of whole parts → TellTheWhole part_of whole parts

-- as many cells of the whole change as of the parts together, and none of a part that is told nothing
abbrev pub PartsTellTheChanges : Type 0
PartsTellTheChanges =
    ((part_of : List ℕ → ℕ) (before after : State) (olds news : List State)
    → IsSplit part_of before olds → IsSplit part_of after news
    → changes before after ≡ sum (map (λ part. changes part.0 part.1) (zip olds news)))
    × ((part : State) → changes part part ≡ 0)
