-- The table as one value: the names, and a cell for each of the requests that they make.
use Rattle.std.specs.Prelude.{◌≡◌, ℕ, ◌+◌, List, [], ◌∷◌, length, map, Option, Some, None, true, false}
use Rattle.ent_eval.specs.Evaluator.{Evaluator}
use Rattle.ent_cells.specs.Cell.{Kept}
use Rattle.ent_cells.specs.declared.blocks.Blocks.{Blocks}
use Rattle.ent_eval.specs.declared.who.Who.{Who}
use Rattle.ent_request.specs.declared.answer.Answer.{Answer}
use Rattle.ent_log.specs.declared.entry.OldAnswer.{OldAnswer}
use Rattle.ent_table.specs.declared.edit.List.{List as Which}
use Rattle.ent_table.specs.declared.edit.List.TheVariants as which
use Rattle.ent_table.specs.declared.table.Table.{Table}
use Rattle.ent_table.specs.Names.{Names, Triple, has_name, list_of, no_names, triples}
use Rattle.ent_table.specs.Names.{with_list, with_name, without_name}

-- requests that had no answer
abbrev pub unanswered : List Triple → List (OldAnswer Who Answer)
unanswered xs = map (λ x. record { key = x; answer = None }) xs

-- no names, and so no cells of an evaluator's requests
abbrev pub empty_table : {E A P D : Type 0} → Evaluator → Table E A P D
empty_table evaluator = record { names = no_names; cells = record { kept = []; evaluator = evaluator } }

-- each cell is what f makes of its request
abbrev pub IsFilled : {E A P D : Type 0} → (Triple → Kept) → Table E A P D → Type 0
IsFilled f t = t.cells.kept ≡ map f (triples t.names)

-- the requests of a new name of a list
abbrev pub requests_with : Which → List ℕ → Names → List Triple
requests_with list name names = triples (with_list list (name ∷ []) names)

-- the blocks behind which its cells belong: those of a new person come last
abbrev pub behind : Which → Blocks → Blocks
behind which.People b = record b { count = 0 }
behind which.Actions b = b
behind which.Resources b = b

-- the names and the cells are the same, whatever was evaluated
pub record HasSameCells {E A P D : Type 0} (old new : Table E A P D) : Type 0 where
  pub names : new.names ≡ old.names
  pub cells : new.cells.kept ≡ old.cells.kept

-- a name was put last in its list, and what f makes of its requests where it belongs
pub record IsAdded {E A P D : Type 0} (f : Triple → Kept) (list : Which) (name : List ℕ) (old new : Table E A P D) : Type 0 where
  pub names : new.names ≡ with_name list name old.names
  pub cells : IsFilled f old → IsFilled f new

-- a name was taken out of its list, and that many cells with it: those of its requests
pub record IsDropped {E A P D : Type 0} (list : Which) (name : List ℕ) (old new : Table E A P D) (count : ℕ) : Type 0 where
  pub there : has_name name (list_of list old.names) ≡ true
  pub names : new.names ≡ without_name list name old.names
  pub cells : (f : Triple → Kept) → IsFilled f old → IsFilled f new
  pub counted : length old.cells.kept ≡ count + length new.cells.kept

-- so many cells were dropped with a name, or the list lacks it and nothing changed
abbrev pub Drops : {E A P D : Type 0} → Which → List ℕ → Table E A P D → Table E A P D → Option ℕ → Type 0
Drops list name old new None = (has_name name (list_of list old.names) ≡ false) × (new ≡ old)
Drops list name old new (Some count) = IsDropped list name old new count
