use Rattle.law_restart.proofs.Restart as restart
use Rattle.law_restart.proofs.law.dumps_restart.Goals as goal

pub returns : goal.returns
returns c = restart.dumps_restart
