use Rattle.law_restart.proofs.Reply as reply
use Rattle.law_restart.proofs.law.replies_restart.Goals as goal

pub returns : goal.returns
returns c = reply.replies_restart
