-- A table with a name more or less is the fresh one.
use Rattle.std.proofs.Common.{◌≡◌, ℕ, List, length, map, sym, ap, ◌∙◌, arith}
use Rattle.std.proofs.lemmas.List.{length-map}
use Rattle.ent_cells.specs.Cell.{cell_of}
use Rattle.ent_request.specs.Held.{looks_in}
use Rattle.ent_table.specs.declared.edit.List.{List as Which}
use Rattle.ent_table.specs.declared.table.Table.{Table}
use Rattle.ent_table.specs.Difference.{changes}
use Rattle.ent_table.specs.Names.{Names, triples, with_name, without_name}
use Rattle.ent_table.specs.State.{State, answer_to, fresh_cells}
use Rattle.ent_table.specs.proofs_only.Table.{IsAdded, IsDropped, IsFilled}
use Rattle.ent_table.proofs.Changes.{changes-name_dropped, less_names, more_names}

-- the names of a table and its cells are those of a state
pub record Shows {E A P D : Type 0} (s : State) (t : Table E A P D) : Type 0 where
  pub names : t.names ≡ s.names
  pub cells : t.cells.kept ≡ fresh_cells s

filled : {E A P D : Type 0} (s : State) (t : Table E A P D) → Shows s t → IsFilled (cell_of (looks_in s.held)) t
filled s t is = is.cells ∙ ap (λ (n : Names). map (cell_of (looks_in s.held)) (triples n)) (sym is.names)

-- with a name more
pub shows_more : {E A P D : Type 0} (s : State) (list : Which) (name : List ℕ) (old new : Table E A P D) → Shows s old → IsAdded (cell_of (looks_in s.held)) list name old new → Shows (more_names s list name) new
shows_more s list name old new is a =
    let names : new.names ≡ with_name list name s.names = a.names ∙ ap (with_name list name) is.names in
    record {
      names = names;
      cells = a.cells (filled s old is) ∙ ap (λ (n : Names). map (cell_of (looks_in s.held)) (triples n)) names;
    }

-- with a name less
pub shows_less : {E A P D : Type 0} (s : State) (list : Which) (name : List ℕ) (old new : Table E A P D) (count : ℕ) → Shows s old → IsDropped list name old new count → Shows (less_names s list name) new
shows_less s list name old new count is d =
    let names : new.names ≡ without_name list name s.names = d.names ∙ ap (without_name list name) is.names in
    record {
      names = names;
      cells = d.cells (cell_of (looks_in s.held)) (filled s old is) ∙ ap (λ (n : Names). map (cell_of (looks_in s.held)) (triples n)) names;
    }

long : {E A P D : Type 0} (s : State) (t : Table E A P D) → Shows s t → length t.cells.kept ≡ length (triples s.names)
long s t is = ap length is.cells ∙ length-map (triples s.names) (cell_of (looks_in s.held))

-- as many answers change as cells are dropped
pub dropped_changes : {E A P D : Type 0} (s : State) (list : Which) (name : List ℕ) (old new : Table E A P D) (count : ℕ) → Shows s old → IsDropped list name old new count → count ≡ changes s (less_names s list name)
dropped_changes s list name old new count is d =
    omega (arith, changes-name_dropped s list name, d.counted, long s old is, long (less_names s list name) new (shows_less s list name old new count is d), length-map (triples s.names) (answer_to s), length-map (triples (less_names s list name).names) (answer_to s))
