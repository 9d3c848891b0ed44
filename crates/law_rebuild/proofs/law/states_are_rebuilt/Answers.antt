use Rattle.law_rebuild.proofs.Rebuilt.{states_rebuilt}
use Rattle.law_rebuild.proofs.law.states_are_rebuilt.Goals as goal

pub returns : goal.returns
returns c = states_rebuilt
