-- What is counted and listed of what stands, part by part.
use Rattle.std.specs.Prelude.{ℕ, List, Option, option_map, filter_map}
use Rattle.std.specs.FinMap.{len}
use Rattle.std.specs.List.{enumerate_from, sum_by}
use Rattle.ent_finder.specs.Rows.{Source}

-- how many rows several modules have
abbrev pub row_count : List Source → ℕ
row_count = sum_by (λ source. len source.rows)

-- the sessions from a number on that have a mark, each with the mark's serial
abbrev pub marked_from : ℕ → List (Option ℕ) → List (ℕ × ℕ)
marked_from first serials = filter_map (λ x. option_map (λ serial. (x.0, serial)) x.1) (enumerate_from first serials)
