use Rattle.ent_request.proofs.ReadersAre.{listed_look_ups}
use Rattle.ent_request.proofs.readers.listed_requests_look_keys_up_by_their_names.Goals as goal

pub returns : goal.returns
returns c = listed_look_ups
