use Rattle.ent_policy.proofs.Written.{patterns_read_back}
use Rattle.ent_policy.proofs.pattern.pattern_text_reads_back.Goals as goal

pub returns : goal.returns
returns c = patterns_read_back
