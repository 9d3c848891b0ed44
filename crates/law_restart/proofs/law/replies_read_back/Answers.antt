use Rattle.law_restart.proofs.Reply.{replies_read_back}
use Rattle.law_restart.proofs.law.replies_read_back.Goals as goal

pub returns : goal.returns
returns c = replies_read_back
