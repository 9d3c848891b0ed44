use Rattle.ent_request.proofs.SameLooks.{same_look-Decides}
use Rattle.ent_request.proofs.same.same_look_is_equal.Goals as goal

pub returns : goal.returns
returns c = same_look-Decides
