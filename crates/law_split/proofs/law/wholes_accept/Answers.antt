use Rattle.law_split.proofs.Led.{wholes_accept}
use Rattle.law_split.proofs.law.wholes_accept.Goals as goal

pub returns : goal.returns
returns c = wholes_accept
