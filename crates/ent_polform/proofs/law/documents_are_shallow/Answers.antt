use Rattle.ent_polform.proofs.FittingDocuments.{documents_are_shallow}
use Rattle.ent_polform.proofs.law.documents_are_shallow.Goals as goal

pub returns : goal.returns
returns c = documents_are_shallow
