use Rattle.ent_polform.proofs.BackValues.{values_back}
use Rattle.ent_polform.proofs.law.values_read_back.Goals as goal

pub returns : goal.returns
returns c = values_back
