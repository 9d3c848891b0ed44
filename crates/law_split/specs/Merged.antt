-- What several parts tell, as what the whole tells.
use Rattle.std.specs.Prelude.{◌≡◌, ℕ, ◌+◌, List, bytes_eq, filter, map, Option, Ok}
use Rattle.std.specs.List.{flat_map, sum_by, zip}
use Rattle.ent_request.specs.declared.answer.Answer.{Answer}
use Rattle.ent_table.specs.Difference.{changes}
use Rattle.ent_table.specs.Names.{Triple}
use Rattle.ent_table.specs.State.{State}
use Rattle.ent_report.specs.Reports.{by_rule, counts, who}
use Rattle.ent_report.specs.declared.counts.Counts.{Counts}
use Rattle.law_split.specs.Split.{IsSplit}

-- the rows of each person in the order of people, the rows of one person in theirs
abbrev pub merged : {A : Type 0} → (A → List ℕ) → List (List ℕ) → List A → List A
merged person_of order rows = flat_map (λ person. filter (λ row. bytes_eq (person_of row) person) rows) order

-- the people of several lists in the order of people
abbrev pub merged_people : List (List ℕ) → List (List (List ℕ)) → List (List ℕ)
merged_people order lists = merged (λ person. person) order (flat_map (λ list. list) lists)

-- a request, person first
abbrev pub Request : Type 0
Request = List ℕ × List ℕ × List ℕ

-- the requests of several lists in the order of their people
abbrev pub merged_requests : List (List ℕ) → List (List Request) → List Request
merged_requests order lists = merged (λ request. request.0) order (flat_map (λ list. list) lists)

-- the cells of several tables in the order of their people
abbrev pub merged_cells : List (List ℕ) → List (List (Triple × Answer)) → List (Triple × Answer)
merged_cells order tables = merged (λ cell. cell.0.person) order (flat_map (λ table. table) tables)

-- the sums of several counts
abbrev pub summed : List Counts → Counts
summed parts = record {
  deny = sum_by (λ c. c.deny) parts;
  indeterminate = sum_by (λ c. c.indeterminate) parts;
  not_applicable = sum_by (λ c. c.not_applicable) parts;
  permit = sum_by (λ c. c.permit) parts;
}

-- the sums of two
abbrev pub plus : Counts → Counts → Counts
plus one other = record {
  deny = one.deny + other.deny;
  indeterminate = one.indeterminate + other.indeterminate;
  not_applicable = one.not_applicable + other.not_applicable;
  permit = one.permit + other.permit;
}

-- how many cells they count
abbrev pub cells_in : Counts → ℕ
cells_in c = c.deny + (c.indeterminate + (c.not_applicable + c.permit))

-- ---- whatever whole and parts they are of

-- where several counts are those of the parts, these are those of the whole
unfoldable pub AreCountsOfTheWhole : List Counts → Counts → Type 0
AreCountsOfTheWhole told total =
    (part_of : List ℕ → ℕ) (whole : State) (parts : List State)
    → IsSplit part_of whole parts → map counts parts ≡ told → counts whole ≡ total

-- where several numbers say how many cells changed in each part, from before some edits to after them, this says how
-- many did in the whole
unfoldable pub AreChangesOfTheWhole : List ℕ → ℕ → Type 0
AreChangesOfTheWhole told total =
    (part_of : List ℕ → ℕ) (before after : State) (olds news : List State)
    → IsSplit part_of before olds → IsSplit part_of after news
    → map (λ part. changes part.0 part.1) (zip olds news) ≡ told → changes before after ≡ total

-- where the parts answer who can do something by several lists, the whole answers by these people
unfoldable pub AreWhoOfTheWhole : List (List ℕ) → List (List (List ℕ)) → List (List ℕ) → Type 0
AreWhoOfTheWhole order told people =
    (part_of : List ℕ → ℕ) (whole : State) (parts : List State) (action resource : List ℕ)
    → IsSplit part_of whole parts → whole.names.people ≡ order
    → map (λ part. who part action resource) parts ≡ map Ok told → who whole action resource ≡ Ok people

-- where the parts answer what a rule decides by several lists, the whole answers by these requests
unfoldable pub AreByRuleOfTheWhole : List (List ℕ) → List (List Request) → List Request → Type 0
AreByRuleOfTheWhole order told requests =
    (part_of : List ℕ → ℕ) (whole : State) (parts : List State) (policy : List ℕ) (rule : Option (List ℕ))
    → IsSplit part_of whole parts → whole.names.people ≡ order
    → map (λ part. by_rule part policy rule) parts ≡ told → by_rule whole policy rule ≡ requests
