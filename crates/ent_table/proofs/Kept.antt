-- Cells, as their requests and their answers.
use Rattle.std.proofs.Common.{◌≡◌, List, [], ◌∷◌, Bool, ap, map, refl, ◌∙◌}
use Rattle.std.proofs.lemmas.Simd.{map-map}
use Rattle.std.specs.List.{zip}
use Rattle.ent_cells.specs.Cell.{Kept, answers_in, cell_of, failures_in}
use Rattle.ent_request.specs.Held.{looks_in}
use Rattle.ent_table.specs.Failed.{has_failed}
use Rattle.ent_table.specs.Names.{triples}
use Rattle.ent_table.specs.State.{State, fresh, fresh_cells}

-- the answers of the fresh cells are the fresh table
pub answers_fresh : (s : State) → answers_in (fresh_cells s) ≡ fresh s
answers_fresh s = map-map (λ (c : Kept). c.said.answer) (cell_of (looks_in s.held)) (triples s.names)

pub fresh_answers : (s : State) (es : List Kept) → es ≡ fresh_cells s → answers_in es ≡ fresh s
fresh_answers s es e = ap answers_in e ∙ answers_fresh s

-- of which of them a part failed
pub failures_fresh : (s : State) (es : List Kept) → es ≡ fresh_cells s → failures_in es ≡ map (has_failed s) (triples s.names)
failures_fresh s es e =
    ap failures_in e ∙ map-map (λ (c : Kept). c.said.failed) (cell_of (looks_in s.held)) (triples s.names)

-- cells beside their marks
pub judged_so : {A B : Type 0} (answer : A → B) (mark : A → Bool) (xs : List A)
    → zip (zip xs (map answer xs)) (map mark xs) ≡ map (λ c. (c, mark c.0)) (zip xs (map answer xs))
judged_so answer mark [] = refl
judged_so answer mark (x ∷ xs) = ap (λ js. ((x, answer x), mark x) ∷ js) (judged_so answer mark xs)
