use Rattle.law_rebuild.proofs.Kept.{reached_rebuilt}
use Rattle.law_rebuild.proofs.law.reached_states_are_rebuilt.Goals as goal

pub returns : goal.returns
returns c = reached_rebuilt
