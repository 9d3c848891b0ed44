use Rattle.ent_index.proofs.ReadersOf.{cells_rise}
use Rattle.ent_index.proofs.law.the_cells_of_a_key_rise.Goals as goal

pub returns : goal.returns
returns c = cells_rise
