-- The cells that an iterator has left.
use Rattle.std.specs.Prelude.{ℕ, List, [], ◌∷◌, ◌++◌, Bool, drop}
use Rattle.std.specs.List.{zip}
use Rattle.ent_cells.specs.Cell.{answers_in, failures_in}
use Rattle.ent_request.specs.declared.answer.Answer.{Answer}
use Rattle.ent_table.specs.declared.cells.Cells.{Cells}
use Rattle.ent_table.specs.declared.judged.Judged.{Judged}
use Rattle.std.specs.Borrow.{Bor}
use Rattle.ent_table.specs.Names.{Triple, texts, triple_of, with_resources, with_actions, all_triples}

-- a person with the first action and the resources that are left of it, and with the later actions and all resources
abbrev pub actions_left : List ℕ → List (List ℕ) → List (List ℕ) → List (List ℕ) → List Triple
actions_left person [] left resources = []
actions_left person (action ∷ actions) left resources =
    with_resources person action left ++ with_actions person actions resources

-- the first person with what is left of it, and the later people with all
abbrev pub people_left : List (List ℕ) → List (List ℕ) → List (List ℕ) → List (List ℕ) → List (List ℕ) → List Triple
people_left [] actions left all_actions resources = []
people_left (person ∷ people) actions left all_actions resources =
    actions_left person actions left resources ++ all_triples people all_actions resources

-- the requests that are left
abbrev pub requests_left : {E A P D : Type 0} → Cells E A P D → List Triple
requests_left c =
    people_left (texts c.people.now) (texts c.actions.now) (texts c.resources.now)
    (texts c.all_actions.now) (texts c.all_resources.now)

-- the answers that are left
abbrev pub answers_left : {E A P D : Type 0} → Cells E A P D → List Answer
answers_left c = drop c.place (answers_in c.answers.now.kept)

-- the requests that are left, each with its answer
abbrev pub cells_left : {E A P D : Type 0} → Cells E A P D → List (Triple × Answer)
cells_left c = zip (requests_left c) (answers_left c)

-- the cells that an iterator of judged cells has left, each with whether a part of it failed
abbrev pub judged_left : {E A P D : Type 0} → Judged E A P D → List ((Triple × Answer) × Bool)
judged_left j = zip (cells_left j.cells) (drop j.place (failures_in j.marks.now.kept))

-- an item as a request with its answer
abbrev pub cell_of : Bor (List ℕ) × Bor (List ℕ) × Bor (List ℕ) × Bor Answer → Triple × Answer
cell_of item = (triple_of item.0.now item.1.now item.2.now, item.3.now)

-- an item as a request with its answer, and whether a part of it failed
abbrev pub judged_of : Bor (List ℕ) × Bor (List ℕ) × Bor (List ℕ) × Bor Answer × Bool → (Triple × Answer) × Bool
judged_of item = ((triple_of item.0.now item.1.now item.2.now, item.3.now), item.4)
