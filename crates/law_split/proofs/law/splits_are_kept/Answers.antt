use Rattle.law_split.proofs.Led.{splits_are_kept}
use Rattle.law_split.proofs.law.splits_are_kept.Goals as goal

pub returns : goal.returns
returns c = splits_are_kept
