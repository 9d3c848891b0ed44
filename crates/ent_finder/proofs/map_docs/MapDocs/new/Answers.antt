use Rattle.ent_finder.proofs.Seats.{nothing_seen}
use Rattle.ent_finder.specs.Slots.{key_cmp}
use Rattle.ent_finder.proofs.map_docs.MapDocs.new.Goals as goal

pub returns : goal.returns
returns c = rw c.new.ensures.items (nothing_seen key_cmp)
