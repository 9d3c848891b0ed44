use Rattle.ent_request.proofs.Sames.{key-Decides}
use Rattle.ent_request.proofs.same.same_key_is_equal.Goals as goal

pub returns : goal.returns
returns c = key-Decides
