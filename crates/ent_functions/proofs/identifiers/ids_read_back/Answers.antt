use Rattle.ent_functions.proofs.Naming.{ids_read_back}
use Rattle.ent_functions.proofs.identifiers.ids_read_back.Goals as goal

pub returns : goal.returns
returns c = ids_read_back
