use Rattle.ent_polform.proofs.BackReferences.{references_back}
use Rattle.ent_polform.proofs.law.references_read_back.Goals as goal

pub returns : goal.returns
returns c = references_back
