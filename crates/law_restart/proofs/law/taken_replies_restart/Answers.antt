use Rattle.law_restart.proofs.Reply as reply
use Rattle.law_restart.proofs.law.taken_replies_restart.Goals as goal

pub returns : goal.returns
returns c = reply.taken_replies_restart
