use Rattle.ent_polform.proofs.BackWhole.{documents_back}
use Rattle.ent_polform.proofs.law.documents_read_back.Goals as goal

pub returns : goal.returns
returns c = documents_back
