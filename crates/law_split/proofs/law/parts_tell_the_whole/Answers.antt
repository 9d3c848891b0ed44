use Rattle.law_split.proofs.Reported.{told_by_parts}
use Rattle.law_split.proofs.law.parts_tell_the_whole.Goals as goal

pub returns : goal.returns
returns c = told_by_parts
