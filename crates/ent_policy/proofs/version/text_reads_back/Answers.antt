use Rattle.ent_policy.proofs.Written.{reads_back}
use Rattle.ent_policy.proofs.version.text_reads_back.Goals as goal

pub returns : goal.returns
returns c = reads_back
