use Rattle.ent_request.proofs.ReadersAre.{name_theirs}
use Rattle.ent_request.proofs.readers.keys_name_the_listed.Goals as goal

pub returns : goal.returns
returns c = name_theirs
