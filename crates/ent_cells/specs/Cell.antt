-- The cells of a table: of each listed request the answer to it, and the look-ups that the answer rests on.
use Rattle.std.specs.Prelude.{◌≡◌, ℕ, ◌+◌, List, [], ◌∷◌, Bool, true, false, if◌then◌else◌, map}
use Rattle.std.specs.List.{list_any}
use Rattle.ent_request.specs.declared.answer.Answer.{Answer}
use Rattle.ent_request.specs.declared.key.ReadKey.{ReadKey}
use Rattle.ent_eval.specs.Evaluator.{Evaluator}
use Rattle.ent_walk.specs.Answer.{answer, has_cause, recorded}
use Rattle.ent_request.specs.Listed.{listed}
use Rattle.ent_request.specs.Looks.{Looks}
use Rattle.ent_request.specs.Noted.{has_key}
use Rattle.ent_request.specs.Same.{same_answer}
use Rattle.ent_eval.specs.declared.who.Who.{Who}

-- what a request is answered, the keys of the look-ups that this rests on, and whether a part of the evaluation failed by itself
pub record Said : Type 0 where
  pub answer : Answer
  pub reads : List ReadKey
  pub failed : Bool

-- a request, and what it is answered
pub record Kept : Type 0 where
  pub who : Who
  pub said : Said

-- what a request of the table is answered, by what is looked up
abbrev pub says : Looks → Who → Said
says looks x =
    let request = listed x.person x.action x.resource in
    record { answer = answer looks request; reads = recorded looks request; failed = has_cause looks request }

-- the cell of a request, by what is looked up
abbrev pub cell_of : Looks → Who → Kept
cell_of looks x = record { who = x; said = says looks x }

-- the cell of the same request, evaluated afresh
abbrev pub renewed : Looks → Kept → Kept
renewed looks e = cell_of looks e.who

-- the answers of cells, in their order
abbrev pub answers_in : List Kept → List Answer
answers_in es = map (λ e. e.said.answer) es

-- whether a part of their evaluations failed by itself, in their order
abbrev pub failures_in : List Kept → List Bool
failures_in es = map (λ e. e.said.failed) es

-- whether a cell reads one of some keys
abbrev pub reads_any : List ReadKey → Kept → Bool
reads_any keys e = list_any (λ k. has_key e.said.reads k) keys

-- a cell that reads none of some keys is right
abbrev pub IsRightBut : List ReadKey → Looks → Kept → Type 0
IsRightBut keys looks e = reads_any keys e ≡ false → e ≡ renewed looks e

-- a cell reads a key
abbrev pub is_read : List Kept → ReadKey → Bool
is_read cells key = list_any (λ e. has_key e.said.reads key) cells

-- each key that passes a test and that a cell reads is among these
abbrev pub HasReadKeys : (ReadKey → Bool) → List Kept → List ReadKey → Type 0
HasReadKeys asks cells keys = (k : ReadKey) → asks k ≡ true → is_read cells k ≡ true → has_key keys k ≡ true

-- at how many places two lists have different answers
abbrev pub unlike_count : List Answer → List Answer → ℕ
unlike_count [] bs = 0
unlike_count (a ∷ as_) [] = 0
unlike_count (a ∷ as_) (b ∷ bs) = (if same_answer a b then 0 else 1) + unlike_count as_ bs

-- ---- with what evaluates them

-- the cells of a table in list order, and the evaluator of their requests
pub record Cells : Type 0 where
  pub kept : List Kept
  pub evaluator : Evaluator
