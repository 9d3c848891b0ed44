use Rattle.ent_request.proofs.Changes.{environment-leaves}
use Rattle.ent_request.proofs.change.environment_leaves_others.Goals as goal

pub returns : goal.returns
returns c = environment-leaves
