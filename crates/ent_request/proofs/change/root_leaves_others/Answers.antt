use Rattle.ent_request.proofs.Changes.{root-leaves}
use Rattle.ent_request.proofs.change.root_leaves_others.Goals as goal

pub returns : goal.returns
returns c = root-leaves
