-- The cells of an iterator of which a part failed.
use Rattle.std.specs.Prelude.{List, Bool, filter, map}
use Rattle.ent_request.specs.declared.answer.Answer.{Answer}
use Rattle.ent_table.specs.Names.{Triple}

abbrev pub failed_in : List ((Triple × Answer) × Bool) → List (Triple × Answer)
failed_in cells = map (λ (j : (Triple × Answer) × Bool). j.0) (filter (λ (j : (Triple × Answer) × Bool). j.1) cells)
