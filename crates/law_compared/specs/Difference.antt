-- The difference of the tables of two states, as it is told.
use Rattle.std.specs.Prelude.{◌≡◌, ◌≢◌, ◌↔◌, List, ◌++◌, map, true, false, Option, option_map}
use Rattle.std.specs.Cmp.Lexicographic.{slice_cmp}
use Rattle.std.specs.List.{Contains}
use Rattle.std.specs.List.Sorted.{IsStrictlySortedBy}
use Rattle.std.specs.Ordering.{nat_cmp}
use Rattle.std.specs.declared.cmp.Ordering.{Ordering}
use Rattle.serde_json.specs.Data.{Data}
use Rattle.ent_combine.specs.declared.outcome.Outcome.{Outcome}
use Rattle.ent_request.specs.declared.answer.Answer.{Answer}
use Rattle.ent_table.specs.Names.{Triple, is_listed}
use Rattle.ent_table.specs.State.{State, answer_at}
use Rattle.ent_line.specs.Cells.{cell_data}
use Rattle.script_compare.specs.Changes.{change, told}
use Rattle.script_compare.specs.Tables.{names_text}

-- ---- a request in a table

-- the decision of a request in the table of a state: none where it isn't listed
abbrev pub decision_at : State → Triple → Option Outcome
decision_at s x = option_map (λ (a : Answer). a.decision) (answer_at s x)

-- the cell of a request in the table of a state, as `table` tells it: none where it isn't listed
abbrev pub cell_at : State → Triple → Option Data
cell_at s x = option_map (λ (a : Answer). cell_data (x, a)) (answer_at s x)

-- the change of a request, as it is told: its cells in both tables
abbrev pub changed : State → State → Triple → Data
changed s t x = change (cell_at s x) (cell_at t x)

-- ---- which requests are told

-- the first table has the request, and the second another decision, or not the request
pub record IsDecided (s t : State) (x : Triple) : Type 0 where
  pub there : is_listed s.names x ≡ true
  pub another : decision_at s x ≢ decision_at t x

-- the second table has the request, and the first hasn't
pub record IsAppeared (s t : State) (x : Triple) : Type 0 where
  pub absent : is_listed s.names x ≡ false
  pub there : is_listed t.names x ≡ true

-- both tables have the request, with the same decision and another cell
pub record IsReasoned (s t : State) (x : Triple) : Type 0 where
  pub there : is_listed s.names x ≡ true
  pub same : decision_at s x ≡ decision_at t x
  pub another : cell_at s x ≢ cell_at t x

-- the byte order of requests by the text of the list of their names
abbrev pub text_order : Triple → Triple → Ordering
text_order x y =
    slice_cmp nat_cmp (names_text x.person x.action x.resource) (names_text y.person y.action y.resource)

-- the requests for which something holds, and no others, each once, in that order
pub record AreThose (P : Triple → Type 0) (xs : List Triple) : Type 0 where
  pub exact : (x : Triple) → Contains xs x ↔ P x
  pub ascending : IsStrictlySortedBy text_order xs

-- Data tells the difference of the tables of two states: each request of the first whose decision is another in the
-- second, or that isn't there, then each that the second alone has; and then each whose decision is the same and whose
-- cell is another. Each has both cells
pub record IsDifference (s t : State) (d : Data) : Type 0 where
  pub decided : List Triple
  pub appeared : List Triple
  pub reasoned : List Triple
  pub decided_are : AreThose (IsDecided s t) decided
  pub appeared_are : AreThose (IsAppeared s t) appeared
  pub reasoned_are : AreThose (IsReasoned s t) reasoned
  pub is : d ≡ told (map (changed s t) (decided ++ appeared)) (map (changed s t) reasoned)
