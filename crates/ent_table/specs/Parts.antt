-- Parts of a table: the cells of one person, and the answers to one action and one resource.
use Rattle.std.specs.Prelude.{ℕ, List, [], ◌∷◌, ◌&&◌, bytes_eq, drop, filter, map}
use Rattle.std.specs.Borrow.{Bor}
use Rattle.ent_cells.specs.Cell.{answers_in}
use Rattle.ent_request.specs.declared.answer.Answer.{Answer}
use Rattle.ent_table.specs.declared.column.Column.{Column}
use Rattle.ent_table.specs.Names.{Triple, texts}

-- the cells of one person
abbrev pub cells_of : List ℕ → List (Triple × Answer) → List (Triple × Answer)
cells_of person cells = filter (λ c. bytes_eq c.0.person person) cells

-- the person and the answer of each cell of an action and a resource
abbrev pub answers_to : List ℕ → List ℕ → List (Triple × Answer) → List (List ℕ × Answer)
answers_to action resource cells =
    map (λ c. (c.0.person, c.1)) (filter (λ c. bytes_eq c.0.action action && bytes_eq c.0.resource resource) cells)

-- ---- what is left of a column

-- the first person with the first answer, and the later people with the answers a stride on
abbrev pub column : ℕ → List (List ℕ) → List Answer → List (List ℕ × Answer)
column stride [] answers = []
column stride (person ∷ people) [] = []
column stride (person ∷ people) (a ∷ answers) = (person, a) ∷ column stride people (drop stride (a ∷ answers))

-- the people that are left, each with its answer
abbrev pub column_left : {E A P D : Type 0} → Column E A P D → List (List ℕ × Answer)
column_left c = column c.stride (texts c.people.now) (drop c.place (answers_in c.answers.now.kept))

-- an item as a person with an answer
abbrev pub answer_of : Bor (List ℕ) × Bor Answer → List ℕ × Answer
answer_of item = (item.0.now, item.1.now)
