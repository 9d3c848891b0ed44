use Rattle.ent_line.proofs.HeadlineLemmas.{headline}
use Rattle.ent_line.proofs.law.replies_are_fresh.Goals as goal

pub returns : goal.returns
returns c = headline
