use Rattle.ent_request.proofs.Changes.{document-leaves}
use Rattle.ent_request.proofs.change.document_leaves_others.Goals as goal

pub returns : goal.returns
returns c = document-leaves
