use Rattle.law_restart.proofs.Asked.{read_back}
use Rattle.law_restart.proofs.law.edits_read_back.Goals as goal

pub returns : goal.returns
returns c = read_back
