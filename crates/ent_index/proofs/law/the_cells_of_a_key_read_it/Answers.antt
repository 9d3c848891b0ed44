use Rattle.ent_index.proofs.ReadersOf.{cells_read}
use Rattle.ent_index.proofs.law.the_cells_of_a_key_read_it.Goals as goal

pub returns : goal.returns
returns c = cells_read
