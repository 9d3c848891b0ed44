use Rattle.law_split.proofs.Differed.{changes_told}
use Rattle.law_split.proofs.law.parts_tell_the_changes.Goals as goal

pub returns : goal.returns
returns c = changes_told
