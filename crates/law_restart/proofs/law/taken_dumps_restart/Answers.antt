use Rattle.law_restart.proofs.Restart as restart
use Rattle.law_restart.proofs.law.taken_dumps_restart.Goals as goal

pub returns : goal.returns
returns c = restart.taken_dumps_restart
