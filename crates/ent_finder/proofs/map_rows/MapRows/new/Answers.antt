use Rattle.ent_finder.proofs.Seats.{nothing_seen}
use Rattle.ent_finder.specs.Rows.{row_cmp}
use Rattle.ent_finder.proofs.map_rows.MapRows.new.Goals as goal

pub returns : goal.returns
returns c = rw c.new.ensures.items (λ t. record { categories = c.args.categories; rows = nothing_seen row_cmp t })
