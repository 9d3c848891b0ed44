use Rattle.ent_profile.proofs.SpelledLemmas.{requests_back}
use Rattle.ent_profile.proofs.law.requests_read_back.Goals as goal

pub returns : goal.returns
returns c = requests_back
