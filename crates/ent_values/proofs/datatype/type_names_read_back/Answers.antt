use Rattle.ent_values.proofs.TypeNames.{names_read_back}
use Rattle.ent_values.proofs.datatype.type_names_read_back.Goals as goal

pub returns : goal.returns
returns c = names_read_back
