use Rattle.ent_request.proofs.Changes.{values-leave}
use Rattle.ent_request.proofs.change.values_leave_others.Goals as goal

pub returns : goal.returns
returns c = values-leave
